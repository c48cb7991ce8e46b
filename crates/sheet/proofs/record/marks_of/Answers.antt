-- What is left to show.
use Prim.Native.Nat.{◌+◌, ◌-◌, ◌*◌, ◌≤◌}
use mathlib.Core.Path.{◌≡◌, refl}
use native.Mathlib.Omega.{arith}
use lib.ListN.{length, get_or}
use borrow.Author.Rules.{rules}
use Rattle.sheet.proofs.Marks.{none_read, more_read, all_read, none_before, one_more, all_before, states_few}
use Rattle.sheet.proofs.record.marks_of.Goals as goal

pub loop-i-init : goal.loop-i-init
loop-i-init c = (none_read c.args.bytes.now c.args.sites c.args.counts.now, omega (arith, none_before c.args.counts.now))

pub overflow_add-read : goal.overflow_add-read
overflow_add-read c =
    let counts = c.args.counts.now in
    omega (arith, c.ranges.sites, c.loop-i.invariant.1, all_before counts c.loop-i.i (search rules), states_few counts (search rules))

pub slice_bounds-read-end : goal.slice_bounds-read-end
slice_bounds-read-end c = omega (arith, c.loop-i.invariant.1, c.requires.1, all_before c.args.counts.now c.loop-i.i (search rules))

pub loop-i-preserved : goal.loop-i-preserved
loop-i-preserved c =
    let counts = c.args.counts.now in
    let i = c.loop-i.i in
    let at = c.loop-i.at in
    let states = get_or counts i 0 in
    let room : at + states ≤ length c.args.bytes.now = omega (arith, c.loop-i.invariant.1, c.requires.1, all_before counts i (search rules)) in
    let here : 8 * i + states - 8 * i ≡ states = omega arith in
    let there : at + states - at ≡ states = omega arith in
    let more = more_read c.loop-i.invariant.0 at states c.copy_from_slice.new.self (search rules) refl (c.requires.0 i) c.loop-i.invariant.1 room (simp there at c.copy_from_slice.ensures.after) in
    (simp here more, omega (arith, c.loop-i.invariant.1, one_more counts i))

pub returns : goal.returns
returns c = all_read c.loop-i.invariant.0 (search rules)
