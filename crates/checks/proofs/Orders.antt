-- What a call that no check refuses has been given: the order lets only legal rings, moduli and lengths pass, and what is legal passes.
-- Each check passes exactly where its test fails; a list of checks passes exactly where each does. Assumes nothing.
use Rattle.std.specs.Prelude.{Ok}
use Prim.Native.Nat.{ℕ, suc, ◌%◌, ◌≤◌, ◌<◌, ◌∣◌}
use mathlib.Core.Path.{◌≡◌, refl, ap, ◌∙◌}
use mathlib.Core.Bool.{false, not}
use mathlib.Core.List.{List, [], ◌∷◌, ◌++◌}
use native.Mathlib.Omega.{arith}
use native.Mathlib.Decide.{dec_lt}
use native.Mathlib.Nat.{dvd_of_mod-eq-zero}
use borrow.Author.Tests.{ltb-false, eqb-false, eqb-true, not-false, le-ltb, eq-eqb, ne_eqb}
use lib.Dec.{eqb, ltb}
use lib.ListN.{length}
use Rattle.sums.specs.Table.{at}
use Rattle.limits.specs.Limits.{most_entries, least_modulus, most_modulus}
use Rattle.ring.specs.Ring.{Ring}
use Rattle.answer.specs.Refuse.{refuse_if}
use Rattle.answer.specs.First.{or, first}
use Rattle.answer.specs.declared.Case.TheVariants.{Mismatch, Coefficient, Room, Divisor}
use Rattle.answer.specs.Check.{Check}
use Rattle.answer.proofs.Firsts.{or_assoc, or_passed, or_both, first-append, both, cut, passes, neither}
use Rattle.checks.specs.Checks.{empty, large, modulus, first_high, coefficient, divisor, room}
use Rattle.checks.specs.Order.{order, mismatches, coefficients, ring_sizes, shape_order, ring_order}
use Rattle.checks.specs.Legal.{Rings, Legal}
use Rattle.checks.proofs.FirstHigh.{high_before, high_at}

-- ---- an order as the code goes through it

-- What stands behind 6 is looked at after all that came before.
pub then_rest : (before sizes : List Check) (modulus factors : Check) (entries rest : List Check)
    → first (order before sizes modulus factors entries rest) ≡ or (first (order before sizes modulus factors entries [])) (first rest)
unfolding order
then_rest before sizes modulus factors entries rest = simp (first-append, or_assoc, or_passed)

-- A call on rings with nothing after 6, as the code goes through it.
pub in_parts : (a : List ℕ) (others : List (List ℕ)) (m : ℕ) (factors : Check)
    → first (ring_order a others m factors []) ≡ or (first (shape_order a others m)) (or factors (first (coefficients m 1 (a ∷ others))))
unfolding order
in_parts a others m factors = simp (first-append, or_assoc, or_passed)

-- One check more, behind any order.
pub order_more : (before sizes : List Check) (modulus factors : Check) (entries rest : List Check) (c : Check)
    → or (first (order before sizes modulus factors entries rest)) c ≡ first (order before sizes modulus factors entries (rest ++ (c ∷ [])))
unfolding order
order_more before sizes modulus factors entries rest c = simp (first-append, or_assoc, or_passed)

-- In the factor list `listed` was found, in all checks up to `rest` `found`, and `after` in the one behind them.
pub one_more : (a : List ℕ) (others : List (List ℕ)) (m : ℕ) (rest : List Check) {listed factors found after c r : Check} → r ≡ or found after
    → found ≡ first (ring_order a others m listed rest) → listed ≡ factors → after ≡ c → r ≡ first (ring_order a others m factors (rest ++ (c ∷ [])))
one_more a others m rest {c = c} e found list last = or_both e (found ∙ ap (λ (x : Check). first (ring_order a others m x rest)) list) last ∙ order_more _ _ _ _ _ rest c

-- ---- single checks

equal : (x y : ℕ) → not (eqb x y) ≡ false → x ≡ y
equal x y e = eqb-true x y (not-false (eqb x y) e)

pub room_passes : (n len : ℕ) → room n len ≡ Ok tt → len ≡ n
room_passes n len e = equal len n (passes _ Room 0 0 e)

pub divisor_passes : (least n d : ℕ) → divisor least n d ≡ Ok tt → (least ≤ d) × (d ∣ n)
divisor_passes least n d e =
    let x = neither (ltb d least) (not (eqb (n % d) 0)) (passes _ Divisor 0 0 e) in
    (ltb-false d least x.0, dvd_of_mod-eq-zero d (equal (n % d) 0 x.1))

coefficient_passes : (m r : ℕ) (a : List ℕ) → coefficient m r a ≡ Ok tt → (i : ℕ) → i < length a → at a i < m
coefficient_passes m r a e i h = high_before m a i (omega (arith, ltb-false (first_high m a) (length a) (passes _ Coefficient r _ e)))

-- ---- the parts of an order

-- Each part of an order that passes.
pub record Passes (before sizes : List Check) (modulus factors : Check) (entries rest : List Check) : Type 0 where
  pub before_passes : first before ≡ Ok tt
  pub sizes_pass : first sizes ≡ Ok tt
  pub modulus_passes : modulus ≡ Ok tt
  pub factors_pass : factors ≡ Ok tt
  pub entries_pass : first entries ≡ Ok tt
  pub rest_passes : first rest ≡ Ok tt

module _ (before sizes : List Check) (modulus factors : Check) (entries rest : List Check) where
  abbrev later : List Check
  later = modulus ∷ factors ∷ (entries ++ rest)

  pub parts_pass : first (order before sizes modulus factors entries rest) ≡ Ok tt → Passes before sizes modulus factors entries rest
  unfolding order
  parts_pass e =
      let x₁ = cut before (sizes ++ later) e in
      let x₂ = cut sizes later x₁.1 in
      let x₃ = both modulus _ x₂.1 in
      let x₄ = both factors (first (entries ++ rest)) x₃.1 in
      let x₅ = cut entries rest x₄.1 in
      record { before_passes = x₁.0; sizes_pass = x₂.0; modulus_passes = x₃.0; factors_pass = x₄.0; entries_pass = x₅.0; rest_passes = x₅.1 }

  pub passes_whole : Passes before sizes modulus factors entries rest → first (order before sizes modulus factors entries rest) ≡ Ok tt
  unfolding order
  passes_whole p =
      first-append before (sizes ++ later) ∙ rw p.before_passes (first-append sizes later ∙ rw (p.sizes_pass, p.modulus_passes, p.factors_pass) (first-append entries rest ∙ rw p.entries_pass p.rest_passes))

-- ---- rings

abbrev Long : ℕ → List (List ℕ) → Type 0
Long n [] = Unit {0}
Long n (a ∷ l) = (length a ≡ n) × Long n l

mismatches_pass : (n r : ℕ) (l : List (List ℕ)) → first (mismatches n r l) ≡ Ok tt → Long n l
mismatches_pass n r [] e = tt
mismatches_pass n r (a ∷ l) e =
    let x = both (refuse_if (not (eqb (length a) n)) Mismatch r 0) (first (mismatches n (suc r) l)) e in
    (equal (length a) n (passes _ Mismatch r 0 x.0), mismatches_pass n (suc r) l x.1)

coefficients_pass : (n m r : ℕ) (l : List (List ℕ)) → Long n l → first (coefficients m r l) ≡ Ok tt → Rings n m l
coefficients_pass n m r [] h e = tt
coefficients_pass n m r (a ∷ l) h e =
    let x = both (refuse_if (ltb (first_high m a) (length a)) Coefficient r (first_high m a)) (first (coefficients m (suc r) l)) e in
    (record { long = h.0; low = λ i b. coefficient_passes m r a x.0 i (omega (arith, h.0)) }, coefficients_pass n m (suc r) l h.1 x.1)

nonzero : (n : ℕ) → eqb n 0 ≡ false → 0 < n
nonzero n e = let h = eqb-false n 0 e in omega arith

mismatches_none : (n m r : ℕ) (l : List (List ℕ)) → Rings n m l → first (mismatches n r l) ≡ Ok tt
mismatches_none n m r [] h = refl
mismatches_none n m r (a ∷ l) h = rw (eq-eqb (length a) n h.0.long) (mismatches_none n m (suc r) l h.1)

low_high : (n m : ℕ) (a : List ℕ) → Ring n m a → length a ≤ first_high m a
low_high n m a h = elim (dec_lt (first_high m a) (length a)) [ yes l ↦ absurd (omega (arith, high_at m a l, h.low (first_high m a) (omega (arith, h.long)))) | no l ↦ omega arith ]

coefficients_none : (n m r : ℕ) (l : List (List ℕ)) → Rings n m l → first (coefficients m r l) ≡ Ok tt
coefficients_none n m r [] h = refl
coefficients_none n m r (a ∷ l) h = rw (le-ltb (first_high m a) (length a) (low_high n m a h.0)) (coefficients_none n m (suc r) l h.1)

sizes_legal : (most : ℕ) (a : List ℕ) (others : List (List ℕ)) → first (ring_sizes most a others) ≡ Ok tt → (0 < length a) × (length a ≤ most) × Long (length a) others
sizes_legal most a others e =
    let x₁ = both (empty (length a)) _ e in
    let x₂ = both (large most (length a)) (first (mismatches (length a) 2 others)) x₁.1 in
    (nonzero (length a) (passes _ _ 0 0 x₁.0), ltb-false most (length a) (passes _ _ 0 0 x₂.0), mismatches_pass (length a) 2 others x₂.1)

modulus_legal : (least most m : ℕ) → modulus least most m ≡ Ok tt → (least ≤ m) × (m ≤ most)
modulus_legal least most m e = let range = neither (ltb m least) (ltb most m) (passes _ _ 0 0 e) in (ltb-false m least range.0, ltb-false most m range.1)

-- ---- what a call on rings has been given where no check refuses

module _ (a : List ℕ) (others : List (List ℕ)) (m : ℕ) (factors : Check) (rest : List Check) where
  pub legal : first (ring_order a others m factors rest) ≡ Ok tt → Legal a others m × (factors ≡ Ok tt) × (first rest ≡ Ok tt)
  legal e =
      let p = parts_pass [] (ring_sizes most_entries a others) (modulus least_modulus most_modulus m) factors (coefficients m 1 (a ∷ others)) rest e in
      let sizes = sizes_legal most_entries a others p.sizes_pass in
      let range = modulus_legal least_modulus most_modulus m p.modulus_passes in
      let rings = coefficients_pass (length a) m 1 (a ∷ others) (refl, sizes.2) p.entries_pass in
      (record { some = sizes.0; few = sizes.1; low = range.0; high = range.1; ring = rings.0; rings = rings.1 }, p.factors_pass, p.rest_passes)

  pub order_passes : Legal a others m → factors ≡ Ok tt → first rest ≡ Ok tt → first (ring_order a others m factors rest) ≡ Ok tt
  order_passes l ok none =
      passes_whole [] (ring_sizes most_entries a others) (modulus least_modulus most_modulus m) factors (coefficients m 1 (a ∷ others)) rest (record {
        before_passes = refl;
        sizes_pass = rw (ne_eqb (length a) 0 (λ e. omega (arith, l.some)), le-ltb most_entries (length a) l.few) (mismatches_none (length a) m 2 others l.rings);
        modulus_passes = rw (le-ltb m least_modulus l.low, le-ltb most_modulus m l.high);
        factors_pass = ok;
        entries_pass = coefficients_none (length a) m 1 (a ∷ others) (l.ring, l.rings);
        rest_passes = none;
      })
