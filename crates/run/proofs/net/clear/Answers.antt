-- What is left to show.
use Rattle.std.proofs.Common.{ℕ, ◌∙◌, ap, set, get_or, rules}
use Rattle.std.proofs.lemmas.List.Edits.{map_over_more}
use Rattle.std.proofs.lemmas.List.{get_or_default}
use Rattle.sets.specs.Sets.{without}
use Rattle.run.proofs.net.clear.Goals as goal

pub loop-to-preserved : goal.loop-to-preserved
loop-to-preserved c =
    let l = c.loop-to in
    let s = c.args.s in
    ap (set l.net l.to-index) c.without.ensures ∙ map_over_more (λ (m : ℕ). without m s) c.args.net.now l.net l.to-index (get_or l.net l.to-index 0) (search rules) l.invariant (get_or_default l.net l.to-index 0 _ (search rules))
