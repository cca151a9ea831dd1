-- "Checks run in this order, each where the call has the thing checked." (document 01, Numbers a call can answer with)
use Rattle.std.specs.Prelude.{ℕ, suc, List, [], ◌∷◌, ◌++◌, length, map, Ok}
use Rattle.std.specs.Borrow.{Bor}
use Rattle.limits.specs.Limits.{most_entries, least_modulus, most_modulus}
use Rattle.answer.specs.Check.{Check}
use Rattle.checks.specs.Checks.{empty, large, mismatch, modulus, coefficient}

-- The table's order, put together from its parts: `before` is what comes before 1, `sizes` are 1 to 3, `modulus` is 4, `factors` is what the check of the
-- factor list finds, `entries` are 6, and `rest` is 7 and 8. A part is empty, or passes, in a call that has nothing of it to check.
unfoldable pub order : (before sizes : List Check) (modulus factors : Check) (entries rest : List Check) → List Check
order before sizes modulus factors entries rest = before ++ (sizes ++ (modulus ∷ factors ∷ (entries ++ rest)))

-- ---- the parts

-- One check a ring, the rings numbered from r: "lowest such ring".
abbrev pub each_ring : (check : ℕ → List ℕ → Check) → ℕ → List (List ℕ) → List Check
each_ring check r [] = []
each_ring check r (a ∷ l) = check r a ∷ each_ring check (suc r) l

abbrev pub mismatches : ℕ → ℕ → List (List ℕ) → List Check
mismatches n r l = each_ring (λ ring a. mismatch n ring (length a)) r l

abbrev pub coefficients : ℕ → ℕ → List (List ℕ) → List Check
coefficients m r l = each_ring (coefficient m) r l

-- 1 to 3: ring 1 is a, with at most so many entries, and the others follow it.
abbrev pub ring_sizes : (most : ℕ) (a : List ℕ) (others : List (List ℕ)) → List Check
ring_sizes most a others = empty (length a) ∷ large most (length a) ∷ mismatches (length a) 2 others

-- The rings that a call is lent.
abbrev pub lent : List (Bor (List ℕ)) → List (List ℕ)
lent l = map (λ b. b.now) l

-- What the check of the factor list finds in a call that has no list.
abbrev pub no_list : Check
no_list = Ok tt

-- ---- the order of a call on rings, within document 01's limits

-- 1 to 4.
abbrev pub shape_order : (a : List ℕ) (others : List (List ℕ)) (m : ℕ) → List Check
shape_order a others m = ring_sizes most_entries a others ++ (modulus least_modulus most_modulus m ∷ [])

abbrev pub ring_order : (a : List ℕ) (others : List (List ℕ)) (m : ℕ) (factors : Check) (rest : List Check) → List Check
ring_order a others m factors rest =
    order [] (ring_sizes most_entries a others) (modulus least_modulus most_modulus m) factors (coefficients m 1 (a ∷ others)) rest
