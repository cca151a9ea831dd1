-- Newton lifting (000, Lemma 3.2): an inverse g modulo q becomes 2 g - g² f modulo m, where q divides m and m divides q².
-- f g is 1 + q e modulo m, so 1 + (f g)² and 2 f g differ by (q e)², a multiple of q². Assumes nothing.
use Prim.Native.Nat.{ℕ, zero, suc, ◌+◌, ◌*◌, ◌-◌, ◌%◌, ◌/◌, ◌^◌, ◌<◌, ◌∣◌}
use mathlib.Core.Path.{◌≡◌, sym, ap, ◌∙◌}
use mathlib.Core.Logic.{◌↔◌}
use mathlib.Core.List.{List}
use native.Mathlib.Omega.{arith}
use native.Mathlib.Nat.{mod-mod, mod-add-mod, add-mod-mod, add-mod_right, add-zero, mul-zero, zero-mod, mul_comm, mul-pos, one-mul, mod-eq-zero_of_dvd, pow-zero, pow-suc, dvd-mul_left, dvd-mul_right, mul-dvd-mul_left}
use Rattle.sums.specs.Table.{at, table}
use Rattle.sums.proofs.Remainders.{mul-mod, mod_split}
use Rattle.sums.proofs.Tables.{at_table, table_eq, table_inj}
use Rattle.ring.specs.Mix.{mix}
use Rattle.ring.specs.One.{first, one, zeros}
use Rattle.ring.specs.Entrywise.{add, sub, scale}
use Rattle.ring.specs.Reduce.{reduce}
use Rattle.ring.specs.Inverse.{Inverse, Invertible}
use Rattle.ring.proofs.Entries.{first-le, sub_ring, scale-reduce, scale-scale, sub-add, add_cancel, reduce-one}
use Rattle.ring.proofs.Product.{mix_left_comm, mix-reduce, mix-one, mix_comm, mix_assoc, mix-add, mix-scale, mix_reduces, reduce-mix}
use Rattle.ring.proofs.Reduce.{reduce-mix-dvd, reduce_keeps_invertible}

-- 2 g - g² f.
unfoldable pub lifted : ℕ → ℕ → List ℕ → List ℕ → List ℕ
lifted n m f g = sub n m (scale n m 2 g) (mix n m (mix n m g g) f)

module _ (n m : ℕ) where
  collect : (o w : List ℕ) → add n m o (add n m (reduce n m (add n m o w)) (add n m (reduce n m w) (zeros n))) ≡ scale n m 2 (add n m o w)
  unfolding add reduce zeros scale
  collect o w = table_eq n _ _ λ k h. simp (at_table, mod-add-mod, add-mod-mod, mod-mod, mul-mod, add-zero) (ap (λ (x : ℕ). x % m) (omega arith))

  scale_gone : (s : ℕ) (x : List ℕ) → m ∣ s → scale n m s x ≡ zeros n
  unfolding scale zeros
  scale_gone s x d = table_eq n _ _ λ k h. rw (mul_comm s (at x k), ← mul-mod (at x k) s m, mod-eq-zero_of_dvd m d, mul-zero, zero-mod)

module _ (n m q : ℕ) (mp : 0 < m) (qm : q ∣ m) (mqq : m ∣ q * q) where
  -- What is 1 modulo q is 1 + q e modulo m, and (q e) (q e) is 0.
  part : List ℕ → List ℕ
  part u = table n (λ k. (at u k + m) / q - first k / q)

  part_is : (u : List ℕ) → reduce n q u ≡ one n q → reduce n m u ≡ add n m (one n m) (scale n m q (part u))
  unfolding part reduce one add scale
  part_is u e = table_eq n _ _ λ k h.
      simp (at_table, mod-add-mod, add-mod-mod)
      (sym (add-mod_right (at u k) m) ∙ ap (λ (x : ℕ). x % m)
      (omega (arith, mod_split q (at u k + m) (first k) (rw (← add-mod-mod (at u k) m q, mod-eq-zero_of_dvd q qm, add-zero) (table_inj n _ _ k h e)) (omega (arith, first-le k)))))

  square : (e : List ℕ) → mix n m (scale n m q e) (scale n m q e) ≡ zeros n
  square e = rw (mix-scale n m q (scale n m q e) e, mix_comm n m (scale n m q e) e, mix-scale n m q e e, scale-scale) (scale_gone n m (q * q) _ mqq)

  key : (u : List ℕ) → reduce n q u ≡ one n q → add n m (one n m) (mix n m u u) ≡ scale n m 2 u
  key u e =
      let w = scale n m q (part u) in
      rw (← mix_reduces n m u u, ← scale-reduce n m 2 u, part_is u e, mix-add n m _ (one n m) w, mix-one, mix_comm n m _ w, mix-add n m w (one n m) w, mix-one, square (part u))
      (collect n m (one n m) w)

  pub lift_product : (f g : List ℕ) → mix n q f g ≡ one n q → mix n m f (lifted n m f g) ≡ one n m
  unfolding lifted
  lift_product f g e =
      let u = mix n m f g in
      let g' = lifted n m f g in
      let sq = mix n m (mix n m g g) f in
      let uu : mix n m u u ≡ mix n m f sq = simp (mix_assoc n m, mix_comm n m, mix_left_comm n m) in
      let twice : add n m (mix n m f g') (mix n m u u) ≡ scale n m 2 u =
      rw uu (sym (mix-add n m f g' sq) ∙ ap (mix n m f) (sub-add n m (scale n m 2 g) sq mp) ∙ mix-reduce n m f (scale n m 2 g) ∙ mix-scale n m 2 f g) in
      sym (reduce-mix n m f g')
      ∙ add_cancel n m (mix n m f g') (one n m) (mix n m u u) mp (twice ∙ sym (key u (reduce-mix-dvd n m q qm f g ∙ e)))
      ∙ reduce-one n m

  pub lift_inverse : {f g : List ℕ} → Inverse n q f g → Inverse n m f (lifted n m f g)
  unfolding lifted
  lift_inverse {f} {g} a = record { ring = sub_ring n m _ _ mp; product = lift_product f g a.product }

-- ---- prime powers, or powers of any q: an inverse modulo q^(k+1) exactly where there is one modulo q

pow_pos : (q k : ℕ) → 0 < q → 0 < q ^ k
pow_pos q zero z = rw pow-zero (omega arith)
pow_pos q (suc k) z = rw pow-suc (mul-pos (pow_pos q k z) z)

lift_power : (n q k : ℕ) {f : List ℕ} → 0 < q → Invertible n q f → Invertible n (q ^ suc k) f
lift_power n q zero z u = rw (pow-suc q 0, pow-zero q, one-mul q) u
lift_power n q (suc k) {f} z u =
    let v = lift_power n q k z u in
    record {
      inverse = lifted n (q ^ suc (suc k)) f v.inverse;
      is = lift_inverse n (q ^ suc (suc k)) (q ^ suc k) (pow_pos q (suc (suc k)) z)
          (rw (pow-suc q (suc k)) (dvd-mul_right _ q))
          (rw (pow-suc q (suc k)) (mul-dvd-mul_left q (q ^ suc k) (rw (pow-suc q k) (dvd-mul_left q (q ^ k)))))
          v.is;
    }

pub invertible_power : (n q k : ℕ) (f : List ℕ) → 0 < q → Invertible n (q ^ suc k) f ↔ Invertible n q f
invertible_power n q k f z = (reduce_keeps_invertible n (q ^ suc k) q (rw (pow-suc q k) (dvd-mul_left q (q ^ k))) z, lift_power n q k z)
