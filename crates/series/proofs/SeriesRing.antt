-- Series modulo m are a commutative ring, by strict equations of functions. Only the unit laws mention `red`: adding `zeros` and multiplying by
-- `one` reduce. Each law is that of numbers at every place. Assumes nothing.
use Prim.Native.Nat.{ℕ, zero, suc, ◌+◌, ◌*◌, ◌-◌, ◌%◌, ◌<◌}
use mathlib.Core.Path.{◌≡◌, refl, sym, ◌∙◌, ap, fun_ext}
use native.Mathlib.Omega.{arith}
use native.Mathlib.Nat.{mod-mod, mod-add-mod, add-mod-mod, zero-mod}
use Rattle.sums.proofs.Remainders.{mul-mod}
use Rattle.series.specs.Series.{Series, Below}
use Rattle.series.specs.Operations.{times, red, add, mul, zeros, term, one}
use Rattle.series.proofs.Residues.{mod-mul, add-mod-eq, add_mods, add_minus}
use Rattle.series.proofs.Products.{tail, times_zero, times-suc, times_comm, times-add, times-scale, times_assoc, times_none, times_constant, term_below}

-- - a
unfoldable pub neg : ℕ → Series → Series
neg m a = λ k. (m - 1) * a k % m

times-red : (m : ℕ) (a b : Series) (k : ℕ) → times (λ i. a i % m) b k % m ≡ times a b k % m
times-red m a b zero = ap (λ (x : ℕ). x % m) (times_zero (λ i. a i % m) b) ∙ mod-mul (a 0) (b 0) m ∙ ap (λ (x : ℕ). x % m) (sym (times_zero a b))
times-red m a b (suc k) =
    ap (λ (x : ℕ). x % m) (times-suc (λ i. a i % m) b k) ∙ add-mod-eq m _ _ _ _ (mod-mul (a 0) (b (suc k)) m) (times-red m (tail a) b k)
    ∙ ap (λ (x : ℕ). x % m) (sym (times-suc a b k))

module _ (m : ℕ) where
  pub red-red : (a : Series) → red m (red m a) ≡ red m a
  unfolding red
  red-red a = fun_ext λ k. mod-mod (a k) m

  pub red-add : (a b : Series) → red m (add m a b) ≡ add m a b
  unfolding red add
  red-add a b = fun_ext λ k. mod-mod (a k + b k) m

  pub red-mul : (a b : Series) → red m (mul m a b) ≡ mul m a b
  unfolding red mul
  red-mul a b = fun_ext λ k. mod-mod (times a b k) m

  pub red_neg : (a : Series) → red m (neg m a) ≡ neg m a
  unfolding red neg
  red_neg a = fun_ext λ k. mod-mod ((m - 1) * a k) m

  pub add_comm : (a b : Series) → add m a b ≡ add m b a
  unfolding add
  add_comm a b = fun_ext λ k. ap (λ (x : ℕ). x % m) {x = a k + b k} {y = b k + a k} (omega arith)

  pub add_redˡ : (a b : Series) → add m (red m a) b ≡ add m a b
  unfolding red add
  add_redˡ a b = fun_ext λ k. mod-add-mod (a k) m (b k)

  pub mul_comm : (a b : Series) → mul m a b ≡ mul m b a
  unfolding mul
  mul_comm a b = fun_ext λ k. ap (λ (x : ℕ). x % m) (times_comm a b k)

  pub mul_redˡ : (a b : Series) → mul m (red m a) b ≡ mul m a b
  unfolding red mul
  mul_redˡ a b = fun_ext λ k. times-red m a b k

  pub mul_redʳ : (a b : Series) → mul m a (red m b) ≡ mul m a b
  mul_redʳ a b = mul_comm a (red m b) ∙ mul_redˡ b a ∙ mul_comm b a

  pub add_assoc : (a b c : Series) → add m (add m a b) c ≡ add m a (add m b c)
  unfolding add
  add_assoc a b c = fun_ext λ k.
      mod-add-mod (a k + b k) m (c k) ∙ ap (λ (x : ℕ). x % m) {x = a k + b k + c k} {y = a k + (b k + c k)} (omega arith) ∙ sym (add-mod-mod (a k) (b k + c k) m)

  pub add_swap : (a b c : Series) → add m a (add m b c) ≡ add m b (add m a c)
  add_swap a b c = sym (add_assoc a b c) ∙ ap (λ (x : Series). add m x c) (add_comm a b) ∙ add_assoc b a c

  pub mul_assoc : (a b c : Series) → mul m (mul m a b) c ≡ mul m a (mul m b c)
  unfolding mul red
  mul_assoc a b c = mul_redˡ (times a b) c ∙ (fun_ext λ k. ap (λ (x : ℕ). x % m) (times_assoc a b c k)) ∙ sym (mul_redʳ a (times b c))

  pub mul_swap : (a b c : Series) → mul m a (mul m b c) ≡ mul m b (mul m a c)
  mul_swap a b c = sym (mul_assoc a b c) ∙ ap (λ (x : Series). mul m x c) (mul_comm a b) ∙ mul_assoc b a c

  pub add-mul : (a b c : Series) → mul m (add m a b) c ≡ add m (mul m a c) (mul m b c)
  unfolding mul add
  add-mul a b c = fun_ext λ k. times-red m (λ i. a i + b i) c k ∙ ap (λ (x : ℕ). x % m) (times-add a b c k) ∙ sym (add_mods m (times a c k) (times b c k))

  pub mul-add : (a b c : Series) → mul m a (add m b c) ≡ add m (mul m a b) (mul m a c)
  mul-add a b c = mul_comm a (add m b c) ∙ add-mul b c a ∙ ap (λ (x : Series). add m x (mul m c a)) (mul_comm b a) ∙ ap (add m (mul m a b)) (mul_comm c a)

  pub add-zeros : (a : Series) → add m a zeros ≡ red m a
  unfolding add zeros red
  add-zeros a = fun_ext λ k. ap (λ (x : ℕ). x % m) {x = a k + 0} {y = a k} (omega arith)

  pub zeros-add : (a : Series) → add m zeros a ≡ red m a
  zeros-add a = add_comm zeros a ∙ add-zeros a

  pub zeros-mul : (a : Series) → mul m zeros a ≡ zeros
  unfolding mul zeros Below
  zeros-mul a = fun_ext λ k. ap (λ (x : ℕ). x % m) (times_none zeros a k (λ i l. refl)) ∙ zero-mod m

  pub mul-zeros : (a : Series) → mul m a zeros ≡ zeros
  mul-zeros a = mul_comm a zeros ∙ zeros-mul a

  pub one-mul : (a : Series) → mul m one a ≡ red m a
  unfolding mul red term
  one-mul a = fun_ext λ k. ap (λ (x : ℕ). x % m) (times_constant one a k (term_below 1 0) ∙ omega arith)

  pub mul-one : (a : Series) → mul m a one ≡ red m a
  mul-one a = mul_comm a one ∙ one-mul a

  pub add_neg : 0 < m → (a : Series) → add m a (neg m a) ≡ zeros
  unfolding add neg zeros
  add_neg h a = fun_ext λ k. add-mod-mod (a k) ((m - 1) * a k) m ∙ add_minus m (a k) h

  pub neg_mul : (a b : Series) → mul m (neg m a) b ≡ neg m (mul m a b)
  unfolding mul neg
  neg_mul a b = fun_ext λ k.
      times-red m (λ i. (m - 1) * a i) b k ∙ ap (λ (x : ℕ). x % m) (times-scale (m - 1) a b k) ∙ sym (mul-mod (m - 1) (times a b k) m)

  pub mul_neg : (a b : Series) → mul m a (neg m b) ≡ neg m (mul m a b)
  mul_neg a b = mul_comm a (neg m b) ∙ neg_mul b a ∙ ap (neg m) (mul_comm b a)

-- Both sides of an equation of sums and products are multiplied out and sorted by this set.
pub ruleset ring = (add_comm, add_assoc, add_swap, mul_comm, mul_assoc, mul_swap, add-mul, mul-add)

module _ (m : ℕ) (pos : 0 < m) where
  -- r = a + b, so r - b = a.
  pub move : (r a b : Series) → r ≡ add m a b → add m r (neg m b) ≡ red m a
  move r a b e = ap (λ (x : Series). add m x (neg m b)) e ∙ add_assoc m a b (neg m b) ∙ ap (add m a) (add_neg m pos b) ∙ add-zeros m a

  add_cancel : (a b c : Series) → add m a c ≡ add m b c → red m a ≡ red m b
  add_cancel a b c e = sym (move (add m a c) a c refl) ∙ move (add m a c) b c e

  -- What differs by 0 is equal.
  pub sub-zero : (a b : Series) → add m a (neg m b) ≡ zeros → red m a ≡ red m b
  sub-zero a b e =
      sym (add-zeros m a) ∙ ap (add m a) (sym (add_neg m pos b)) ∙ (simp ring) ∙ ap (add m b) e ∙ add-zeros m b

  pub neg_neg : (a : Series) → neg m (neg m a) ≡ red m a
  neg_neg a = sym (red_neg m (neg m a)) ∙ add_cancel (neg m (neg m a)) a (neg m a) (add_comm m (neg m (neg m a)) (neg m a) ∙ add_neg m pos (neg m a) ∙ sym (add_neg m pos a))
