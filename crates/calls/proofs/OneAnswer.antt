-- For every input mix, reduce and fold have one answer and one content of the output: any two that fit are equal.
-- Their contracts say of Done what the output is, and allow no Singular, so `one_fill` settles each. Assumes nothing.
use Prim.Native.Nat.{ℕ}
use mathlib.Core.Path.{◌≡◌}
use mathlib.Core.List.{List}
use Rattle.answer.specs.Answer.{Answer}
use Rattle.answer.proofs.OneAnswer.{one_fill}
use lib.ListN.{length}
use Rattle.ring.specs.Mix.{mix}
use Rattle.ring.specs.Reduce.{reduce}
use Rattle.ring.specs.Fold.{fold}
use Rattle.calls.specs.Promises.{mix_order, reduce_order, fold_order, Mixes, Reduces, Folds}

pub mix-one_answer : (a b : List ℕ) (m : ℕ) (old : List ℕ) {r r' : Answer} {x y : List ℕ} → Mixes a b m old r x → Mixes a b m old r' y → (r ≡ r') × (x ≡ y)
mix-one_answer a b m old h k = one_fill (mix_order a b m (length old)) (mix (length a) m a b) old _ _ _ _ h.meets k.meets

pub reduce-one_answer : (a : List ℕ) (m m' : ℕ) (old : List ℕ) {r r' : Answer} {x y : List ℕ} → Reduces a m m' old r x → Reduces a m m' old r' y → (r ≡ r') × (x ≡ y)
reduce-one_answer a m m' old h k = one_fill (reduce_order a m m' (length old)) (reduce (length a) m' a) old _ _ _ _ h.meets k.meets

pub fold-one_answer : (a : List ℕ) (m : ℕ) (old : List ℕ) {r r' : Answer} {x y : List ℕ} → Folds a m old r x → Folds a m old r' y → (r ≡ r') × (x ≡ y)
fold-one_answer a m old h k = one_fill (fold_order a m (length old)) (fold (length a) (length old) m a) old _ _ _ _ h.meets k.meets
