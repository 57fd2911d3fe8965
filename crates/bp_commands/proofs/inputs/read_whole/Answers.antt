use Rattle.bp_commands.proofs.Common.{arith, ◌≡◌, length, length-append, length-take, take, ◌++◌, ℕ, ◌+◌, ◌-◌, ◌<◌, ◌≤◌, List, rules, err_from_is_err_and, Consumes-trans}
use Rattle.bp_commands.proofs.inputs.read_whole.Goals as goal

-- a read into the room that is left goes at most one byte past the limit
within_room : (limit : ℕ) (bytes buf chunk : List ℕ) (count room : ℕ) → length bytes ≤ limit → room ≤ limit + 1 - length bytes
    → length buf ≡ length (take room chunk) → length (bytes ++ take count buf) ≤ limit + 1
within_room limit bytes buf chunk count room given1 given2 given3 = search (rules, length-take, length-append)

-- if it gave more bytes than the limit leaves, it went one byte past it
past_limit : (limit : ℕ) (bytes buf : List ℕ) (count : ℕ) → length bytes ≤ limit → limit - length bytes < count → count ≤ length buf
    → length (bytes ++ take count buf) ≤ limit + 1 → length (bytes ++ take count buf) ≡ limit + 1
past_limit limit bytes buf count given1 given2 given3 given4 = search (rules, length-append, length-take)

-- if it gave no more than that, it is within the limit
within_limit : (limit : ℕ) (bytes buf : List ℕ) (count : ℕ) → length bytes ≤ limit → count ≤ limit - length bytes → length (bytes ++ take count buf) ≤ limit
within_limit limit bytes buf count given1 given2 = search (rules, length-append, length-take)

pub returns-then-count-limit-clause-answer : goal.returns-then-count-limit-clause-answer
returns-then-count-limit-clause-answer g c =
    let test = c.if-count-limit.true in
    let length_is = c.len.ensures in
    let again = c.len-in-loop-count.ensures in
    let room = c.min-room.ensures in
    let given = c.in-Ok.ensures.bound in
    let short = c.loop-count.invariant.short in
    let most = within_room c.args.limit c.loop-count.bytes.items c.read.new.buf c.loop-count.chunk c.in-Ok.count
    c.min-room.result short (omega arith) c.read.auto.buf in
    record {
      bytes = c.loop-count.bytes.items ++ take c.in-Ok.count c.read.new.buf;
      taken = Consumes-trans _ _ _ _ _ c.loop-count.invariant.taken c.in-Ok.ensures.bytes.0;
      long = past_limit c.args.limit c.loop-count.bytes.items c.read.new.buf c.in-Ok.count short (omega arith) (omega arith) most;
    }

pub returns-then-count-limit-clause-bound : goal.returns-then-count-limit-clause-bound
returns-then-count-limit-clause-bound g c =
    let length_is = c.len.ensures in
    let room = c.min-room.ensures in
    record {
      bytes = c.loop-count.bytes.items ++ take c.in-Ok.count c.read.new.buf;
      taken = Consumes-trans _ _ _ _ _ c.loop-count.invariant.taken c.in-Ok.ensures.bytes.0;
      short =
          within_room c.args.limit c.loop-count.bytes.items c.read.new.buf c.loop-count.chunk c.in-Ok.count
          c.min-room.result c.loop-count.invariant.short (omega arith) c.read.auto.buf;
    }

pub returns-in_err-extend_from_slice-clause-bound :
    goal.returns-in_err-extend_from_slice-clause-bound
returns-in_err-extend_from_slice-clause-bound g c =
    let length_is = c.len.ensures in
    let room = c.min-room.ensures in
    record {
      bytes = c.loop-count.bytes.items ++ take c.in-Ok.count c.read.new.buf;
      taken = Consumes-trans _ _ _ _ _ c.loop-count.invariant.taken c.in-Ok.ensures.bytes.0;
      short =
          within_room c.args.limit c.loop-count.bytes.items c.read.new.buf c.loop-count.chunk c.in-Ok.count
          c.min-room.result c.loop-count.invariant.short (omega arith) c.read.auto.buf;
    }

pub returns-in_err-extend_from_slice-clause-answer :
    goal.returns-in_err-extend_from_slice-clause-answer
returns-in_err-extend_from_slice-clause-answer g c =
    let p = err_from_is_err_and c.from_residual.result c.from_residual.ensures.1 in
    rw (p.1, p.2) (record {
      bytes = c.loop-count.bytes.items ++ take c.in-Ok.count c.read.new.buf;
      taken = Consumes-trans _ _ _ _ _ c.loop-count.invariant.taken c.in-Ok.ensures.bytes.0;
      short =
          let test = c.if-count-limit.false in
          let again = c.len-in-loop-count.ensures in
          let short = c.loop-count.invariant.short in
          within_limit c.args.limit c.loop-count.bytes.items c.read.new.buf c.in-Ok.count short (omega arith);
    })
