-- What is left to show.
use mathlib.Core.Path.{sym, ap}
use native.Mathlib.Omega.{arith}
use lib.ListN.{length}
use Prim.Native.Nat.{◌/◌}
use Rattle.text.proofs.DecimalLaws.{decimal_one, width_more, width_decimal}
use Rattle.text.proofs.+width.Goals as goal

pub returns-then-n-lt10 : goal.returns-then-n-lt10
returns-then-n-lt10 t c = sym (ap length (decimal_one c.args.n c.if-n-lt10.true))

pub overflow_add-result : goal.overflow_add-result
overflow_add-result t c = omega (arith, c.width.ensures, width_decimal 19 (c.args.n / 10) (omega arith))

pub returns : goal.returns
returns t c = omega (arith, c.width.ensures, width_more c.args.n c.if-n-lt10.false)
