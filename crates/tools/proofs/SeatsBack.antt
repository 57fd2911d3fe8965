-- Seats that are returned after a turn.
use Rattle.std.proofs.Common.{◌≡◌, ◌∙◌, ◌++◌, ◌∷◌, ℕ, List, [], map, ap, sym}
use Rattle.std.proofs.lemmas.List.{map-append}
use Rattle.bp_run.specs.Desks.{SeatOf}
use Rattle.bp_run.specs.Gatherings.{AreOnePerThread}
use Rattle.bp_run.proofs.Played.{one_each_kept}

-- the last seat had a turn, and is of the same thread
pub put_back : (n : ℕ) (all others now : List SeatOf) (old new : SeatOf) → all ≡ others ++ old ∷ [] → now ≡ others ++ new ∷ [] → new.thread ≡ old.thread
    → AreOnePerThread n all → AreOnePerThread n now
put_back n all others now old new was is same one =
    let threads = λ (seats : List SeatOf). map (λ s. s.thread) seats in
    let after : threads now ≡ threads others ++ new.thread ∷ [] = ap threads is ∙ map-append (λ (s : SeatOf). s.thread) others (new ∷ []) in
    let before : threads all ≡ threads others ++ old.thread ∷ [] = ap threads was ∙ map-append (λ (s : SeatOf). s.thread) others (old ∷ []) in
    one_each_kept n now all (after ∙ ap (λ k. threads others ++ k ∷ []) same ∙ sym before) one
