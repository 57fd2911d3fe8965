use Rattle.bp_view.proofs.Common.{◌∙◌, ◌++◌, ap, append_assoc, refl}
use Rattle.bp_view.proofs.views.push_end.Goals as goal

pub returns : goal.returns
returns c = λ text h known stands whole outcome fine.
    let (was, state) = c.push_state.ensures text h known stands whole fine in
    let (none, footer) = c.push_footer_of.ensures text h known stands outcome was in (
      none,
      record {
        more = footer.more ++ state.more;
        is = state.is ∙ ap (λ x. x ++ state.more) footer.is ∙ append_assoc c.args.view.now.bytes.items footer.more state.more;
        more_are = record { footer = footer.more; footer_is = footer.more_are; state = state.more; state_is = state.more_are; is = refl };
      },
    )
