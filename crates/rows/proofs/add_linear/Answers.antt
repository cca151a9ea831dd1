-- The goals of `rows::add_linear` that the search leaves.
use Prim.Native.Nat.{ℕ, ◌+◌, ◌*◌, ◌<◌}
use mathlib.Core.Path.{◌≡◌, refl, sym, ap, ◌∙◌}
use mathlib.Core.List.{List, ◌∷◌}
use lib.ListN.{length}
use Rattle.sums.specs.Table.{at}
use Rattle.sums.proofs.Fill.{fill_none, fill_read, fill_store}
use Rattle.rows.specs.Row.{LinearAddable}
use Rattle.rows.proofs.Rows.{plus-value, plus_all, up_next, up_low, times_linear_past, times_linear_last}
use native.Mathlib.Omega.{arith}
use Rattle.rows.proofs.add_linear.Goals as goal

-- The entries of src moved up by one place are below p too.
before_low : {p q : ℕ} {dst src : List ℕ} → LinearAddable p q dst src → 0 < p → (i : ℕ) → at (0 ∷ src) i < p
before_low {p} {src = src} h some = up_low p src some h.multiple.low

pub loop-i-init : goal.loop-i-init
loop-i-init c = record { front = fill_none _ _; before = refl }

pub plus_two-requires : goal.plus_two-requires
plus_two-requires c =
    let v = c.loop-i in
    record {
      first = record {
        modulus = c.requires.multiple.modulus;
        onto = omega (arith, fill_read _ c.args.dst.now v.i (omega arith) v.invariant.front, c.requires.onto v.i);
        from = c.requires.multiple.low v.i;
      };
      same = c.requires.same;
      second = omega (arith, before_low c.requires (omega (arith, c.args.low.prepared.low)) v.i);
    }

pub loop-i-preserved : goal.loop-i-preserved
loop-i-preserved c =
    let v = c.loop-i in
    let x = fill_read _ c.args.dst.now v.i (omega arith) v.invariant.front in
    let t = ap (λ (z : ℕ). c.args.low.value * at c.args.src.now v.i + c.args.high.value * z) v.invariant.before in
    record {
      front = fill_store _ c.args.dst.now v.i (omega arith) v.invariant.front (plus-value c.args.low.modulus {z = c.args.low.value * at c.args.src.now v.i + c.args.high.value * v.last} c.plus_two.ensures x t);
      before = sym (up_next c.args.src.now v.i);
    }

pub plus_multiple-requires : goal.plus_multiple-requires
plus_multiple-requires c =
    let v = c.loop-i in
    let n = length c.args.src.now in
    let done : v.i ≡ n = omega arith in
    let all = rw done at v.invariant.front in
    rw c.requires.same (record {
      modulus = c.requires.multiple.modulus;
      onto = omega (arith, fill_read _ c.args.dst.now n c.requires.fits all, c.requires.onto n);
      from = omega (arith, before_low c.requires (omega (arith, c.args.low.prepared.low)) v.i);
    })

pub returns : goal.returns
returns c =
    let v = c.loop-i in
    let n = length c.args.src.now in
    let p = c.args.low.modulus in
    let done : v.i ≡ n = omega arith in
    let all = rw done at v.invariant.front in
    let x = fill_read _ c.args.dst.now n c.requires.fits all in
    let l = rw done at v.invariant.before in
    let t = ap (λ (z : ℕ). c.args.high.value * z) l ∙ sym (times_linear_last c.args.low.value c.args.high.value c.args.src.now) in
    fill_store _ c.args.dst.now n c.requires.fits all (plus-value p (rw c.requires.same at c.plus_multiple.ensures) x t)
    ∙ plus_all p c.args.dst.now _ (n + 1) (omega (arith, c.requires.fits)) c.requires.onto (λ k g. times_linear_past c.args.low.value c.args.high.value c.args.src.now k (omega arith))
