-- The goals of `lift::lift` that the search leaves.
use mathlib.Core.Path.{◌≡◌, sym, ap, ◌∙◌, subst}
use Prim.Native.Nat.{ℕ, ◌^◌}
use lib.ListN.{length}
use lib.Seq.{length-take-le}
use Rattle.ring.specs.Inverse.{Inverse}
use Rattle.lift.proofs.Lifting.{reached, reached_end}
use Rattle.lift.proofs.Rounds.{power_first, power_next, round_ready, round_done}
use native.Mathlib.Omega.{arith}
use Rattle.lift.proofs.lift.Goals as goal

pub loop-t-init : goal.loop-t-init
loop-t-init c =
    let f = c.args.f.now in
    let first = power_first c.args.power.prime c.args.power.exponent c.args.power.some in
    (sym first, subst (λ (x : ℕ). Inverse (length f) x f c.args.g.now) (sym first) c.requires.inverse)

pub round-requires : goal.round-requires
round-requires c =
    let inv = c.loop-t.invariant in
    round_ready c.requires c.loop-t._t inv.0 c.squared-q.ensures inv.1
    (c.loop-t.auto.pattern ∙ length-take-le _ _ c.requires.few) (c.loop-t.auto.square ∙ length-take-le _ _ c.requires.few) (c.loop-t.auto.product ∙ length-take-le _ _ c.requires.few)

pub loop-t-preserved : goal.loop-t-preserved
loop-t-preserved c =
    let inv = c.loop-t.invariant in
    (power_next c.requires c.loop-t._t inv.0 c.squared-q.ensures, round_done c.requires c.loop-t._t inv.0 c.squared-q.ensures inv.1 c.round.ensures)

pub returns : goal.returns
returns c =
    let f = c.args.f.now in
    let power = c.args.power in
    let done : reached power.exponent c.loop-t._t ≡ power.exponent = ap (reached power.exponent) (omega arith) ∙ reached_end power.exponent c.rounds-turns.result c.rounds-turns.ensures in
    subst (λ (m : ℕ). Inverse (length f) m f c.loop-t.g) (ap (λ (e : ℕ). power.prime ^ e) done ∙ sym power.is) c.loop-t.invariant.1
