-- Small rings can be searched through: whether every ring of n entries below q has a property, where each single one can be asked. So it can be told by
-- computation whether a pattern takes some ring to zero, and that is whether the prime is singular. Assumes nothing.
use Prim.Native.Nat.{ℕ, zero, suc, ◌≤◌, ◌<◌}
use mathlib.Core.Path.{◌≡◌, refl, sym, ap, ◌∙◌, subst}
use mathlib.Core.Logic.{◌≢◌, ◌⊎◌, inl, inr}
use mathlib.Core.List.{List, [], ◌∷◌}
use native.Mathlib.Omega.{arith}
use native.Mathlib.Decide.{ℕ_discrete, dec_lt, dec_le}
use native.Mathlib.Nat.{mod-eq_of_lt}
use lib.ListN.{length}
use lib.Seq.{ext_get_or}
use Rattle.sums.specs.Sum.{sum}
use Rattle.sums.specs.Table.{at, table}
use Rattle.sums.proofs.Tables.{at_past, at_table, length-table}
use Rattle.ring.specs.Ring.{Ring}
use Rattle.ring.specs.Mix.{mix}
use Rattle.ring.specs.One.{zeros}
use Rattle.ring.specs.Inverse.{Invertible}
use Rattle.ring.proofs.Inverses.{ghost_excludes}
use Rattle.modular.specs.Prime.{Prime}
use Rattle.pattern.specs.Singular.{Singular}
use Rattle.pattern.specs.GhostPolynomial.{Degree, GhostPolynomial}
use Rattle.pattern.proofs.OnePrime.{inverse_or_polynomial, singular_exactly}

-- ---- lists, bounded numbers, rings

unfoldable pub same? : (a b : List ℕ) → Dec (a ≡ b)
unfolding ℕ_discrete
same? [] [] = yes refl
same? [] (y ∷ b) = no λ e. absurd (let z : ◌≡◌ {A = ℕ} 0 1 = cc e in omega arith)
same? (x ∷ a) [] = no λ e. absurd (let z : ◌≡◌ {A = ℕ} 0 1 = cc e in omega arith)
same? (x ∷ a) (y ∷ b) = go (ℕ_discrete x y) (same? a b)
  where
    go : Dec (x ≡ y) → Dec (a ≡ b) → Dec (x ∷ a ≡ y ∷ b)
    go (yes p) (yes q) = yes (λ i. p i ∷ q i)
    go (yes p) (no n) = no λ e. n (cc e)
    go (no n) q = no λ e. n (cc e)

unfoldable pub implies? : {A B : Type 0} → Dec A → Dec B → Dec (A → B)
implies? (no n) b = yes λ a. absurd (n a)
implies? (yes a) (yes b) = yes λ _. b
implies? (yes a) (no n) = no λ f. n (f a)

unfoldable pub below? : (q : ℕ) (P : ℕ → Type 0) → ((i : ℕ) → Dec (P i)) → Dec ((i : ℕ) → i < q → P i)
below? zero P d = yes λ i h. absurd (omega arith)
below? (suc q) P d = go (below? q P d) (d q)
  where
    go : Dec ((i : ℕ) → i < q → P i) → Dec (P q) → Dec ((i : ℕ) → i < suc q → P i)
    go (yes h) (yes k) = yes λ i b. elim (ℕ_discrete i q) [ yes e ↦ subst P (sym e) k | no e ↦ h i (omega arith) ]
    go (yes h) (no n) = no λ h. n (h q (omega arith))
    go (no n) k = no λ h. n (λ i b. h i (omega arith))

unfoldable pub ring? : (n q : ℕ) (v : List ℕ) → Dec (Ring n q v)
unfolding ℕ_discrete below? dec_lt
ring? n q v = go (ℕ_discrete (length v) n) (below? n (λ i. at v i < q) (λ i. dec_lt (at v i) q))
  where
    go : Dec (length v ≡ n) → Dec ((i : ℕ) → i < n → at v i < q) → Dec (Ring n q v)
    go (yes a) (yes b) = yes (record { long = a; low = b })
    go (yes a) (no b) = no λ r. b r.low
    go (no a) b = no λ r. a r.long

abbrev Every : ℕ → ℕ → (List ℕ → Type 0) → Type 0
Every n q P = (v : List ℕ) → Ring n q v → P v

unfoldable every? : (n q : ℕ) (P : List ℕ → Type 0) → ((v : List ℕ) → Dec (P v)) → Dec (Every n q P)
unfolding below?
every? zero q P d = go (d [])
  where
    nil : P [] → Every zero q P
    nil h [] r = h
    nil h (x ∷ v) r = absurd (omega (arith, r.long))

    go : Dec (P []) → Dec (Every zero q P)
    go (yes h) = yes (nil h)
    go (no n) = no λ h. n (h [] (record { long = refl; low = λ i b. absurd (omega arith) }))
every? (suc n) q P d = go (below? q (λ i. Every n q (λ v. P (i ∷ v))) (λ i. every? n q (λ v. P (i ∷ v)) (λ v. d (i ∷ v))))
  where
    cons : ((i : ℕ) → i < q → Every n q (λ v. P (i ∷ v))) → Every (suc n) q P
    cons h [] r = absurd (omega (arith, r.long))
    cons h (x ∷ v) r = h x (r.low 0 (omega arith)) v (record { long = omega (arith, r.long); low = λ i b. r.low (suc i) (omega arith) })

    low : (i : ℕ) (v : List ℕ) → i < q → Ring n q v → (k : ℕ) → k < suc n → at (i ∷ v) k < q
    low i v b r zero l = b
    low i v b r (suc k) l = r.low k (omega arith)

    go : Dec ((i : ℕ) → i < q → Every n q (λ v. P (i ∷ v))) → Dec (Every (suc n) q P)
    go (yes h) = yes (cons h)
    go (no m) = no λ h. m (λ i b v r. h (i ∷ v) (record { long = ap suc r.long; low = low i v b r }))

-- ---- patterns

-- f takes no ring to zero but zero itself, among those that are zero from place e on.
abbrev pub Clear : ℕ → ℕ → List ℕ → ℕ → Type 0
Clear n q f e = (v : List ℕ) → Ring n q v → mix n q f v ≡ zeros n → ((i : ℕ) → i < n → e ≤ i → at v i ≡ 0) → v ≡ zeros n

unfoldable pub clear? : (n q : ℕ) (f : List ℕ) (e : ℕ) → Dec (Clear n q f e)
unfolding every? implies? same? below? dec_le ℕ_discrete mix zeros table sum
clear? n q f e =
    every? n q (λ v. mix n q f v ≡ zeros n → ((i : ℕ) → i < n → e ≤ i → at v i ≡ 0) → v ≡ zeros n)
    (λ v. implies? (same? (mix n q f v) (zeros n)) (implies? (below? n (λ i. e ≤ i → at v i ≡ 0) (λ i. implies? (dec_le e i) (ℕ_discrete (at v i) 0))) (same? v (zeros n))))

at-zeros : (n i : ℕ) → at (zeros n) i ≡ 0
unfolding zeros
at-zeros n i = elim (dec_lt i n) [ yes h ↦ at_table n (λ _. 0) i h | no h ↦ at_past (table n (λ _. 0)) i (omega (arith, length-table n (λ _. 0))) ]

-- What is other than zero somewhere is not zero.
differs : (n : ℕ) {v : List ℕ} (i : ℕ) → at v i ≢ 0 → v ≡ zeros n → ⊥
differs n i h e = h (ap (λ (l : List ℕ). at l i) e ∙ at-zeros n i)

invertible_clear : (n q : ℕ) (f : List ℕ) → Invertible n q f → Clear n q f n
unfolding zeros
invertible_clear n q f u v r d z = ext_get_or 0 v (zeros n) (r.long ∙ sym (length-table n _)) λ i h.
    let b : i < n = omega (arith, r.long) in
    elim (ℕ_discrete (at v i) 0) [ yes w ↦ w ∙ sym (at-zeros n i) | no w ↦ absurd (ghost_excludes n q f v i b (λ y. w (sym (mod-eq_of_lt (r.low i b)) ∙ y)) d u) ]

module _ (n q : ℕ) (prime : Prime q) (some : 0 < n) (f : List ℕ) (lf : length f ≡ n) where
  clear_invertible : Clear n q f n → Invertible n q f
  clear_invertible c = pick (inverse_or_polynomial n q prime some f lf)
    where
      pick : Invertible n q f ⊎ (Singular n q f × ((w : List ℕ) × GhostPolynomial n q f w)) → Invertible n q f
      pick (inl u) = u
      pick (inr (s, (w, g))) = absurd (differs n g.degree g.is.last (c w g.ring g.zero (λ i h l. absurd (omega arith))))

  pub clear_singular : Clear n q f n → ¬ Singular n q f
  clear_singular c s = (singular_exactly n q prime some f lf).0 s (clear_invertible c)

  pub unclear_singular : ¬ Clear n q f n → Singular n q f
  unclear_singular h = (singular_exactly n q prime some f lf).1 (λ u. h (invertible_clear n q f u))

pub clear_least : (n q : ℕ) (f : List ℕ) (e : ℕ) → Clear n q f e → (v : List ℕ) (d : ℕ) → Ring n q v → Degree v d → mix n q f v ≡ zeros n → e ≤ d
clear_least n q f e c v d r g z = elim (dec_lt d e) [
  | yes b ↦ absurd (differs n d g.last (c v r z (λ i h l. g.above i (omega arith))))
  | no b ↦ omega arith
]
