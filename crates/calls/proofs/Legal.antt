-- What a call that no check refuses has been given: rings, a modulus in range, and an output and a divisor that fit.
-- Each is `legal` of the shared order, and the checks that come after it. Assumes nothing.
use Rattle.std.specs.Prelude.{Ok}
use Prim.Native.Nat.{ℕ}
use mathlib.Core.Path.{◌≡◌}
use mathlib.Core.List.{List, [], ◌∷◌}
use native.Mathlib.Omega.{arith}
use lib.ListN.{length}
use Rattle.limits.specs.Limits.{least_modulus}
use Rattle.convolve.specs.Mixable.{Mixable}
use Rattle.convolve.proofs.Rings.{rings_mixable}
use Rattle.checks.specs.Checks.{room, divisor}
use Rattle.answer.specs.First.{first}
use Rattle.checks.specs.Order.{no_list}
use Rattle.answer.proofs.Firsts.{both}
use Rattle.checks.proofs.Orders.{legal, room_passes, divisor_passes}
use Rattle.calls.specs.Promises.{mix_order, reduce_order, fold_order}
use Rattle.slices.specs.Asks.{Reducible}
use Rattle.calls.specs.Ready.{Foldable}

pub reduce_ready : (a : List ℕ) (m m' : ℕ) (out : List ℕ) → first (reduce_order a m m' (length out)) ≡ Ok tt → Reducible a m' out
reduce_ready a m m' out e =
    let l = legal a [] m no_list (room (length a) (length out) ∷ divisor least_modulus m m' ∷ []) e in
    let x = both (room (length a) (length out)) _ l.2 in
    let d = divisor_passes least_modulus m m' (both (divisor least_modulus m m') (Ok tt) x.1).0 in
    record { modulus = omega (arith, d.0); room = room_passes (length a) (length out) x.0 }

pub fold_ready : (a : List ℕ) (m : ℕ) (out : List ℕ) → first (fold_order a m (length out)) ≡ Ok tt → Foldable a m out
fold_ready a m out e =
    let l = legal a [] m no_list (divisor 1 (length a) (length out) ∷ []) e in
    let d = divisor_passes 1 (length a) (length out) (both (divisor 1 (length a) (length out)) (Ok tt) l.2).0 in
    record { modulus = omega (arith, l.0.low); few = l.0.few; some = d.0; onto = d.1 }

pub mix_ready : (a b : List ℕ) (m : ℕ) (out : List ℕ) → first (mix_order a b m (length out)) ≡ Ok tt → Mixable a b m out
mix_ready a b m out e =
    let l = legal a (b ∷ []) m no_list (room (length a) (length out) ∷ []) e in
    let given = l.0 in
    let fits = room_passes (length a) (length out) (both (room (length a) (length out)) (Ok tt) l.2).0 in
    rings_mixable (length a) m a b out given.some given.few (omega (arith, given.low)) given.high given.ring given.rings.0 fits
