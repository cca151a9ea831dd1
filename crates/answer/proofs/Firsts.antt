-- Laws of lists of checks: what the first of several that finds something is, and that a list passes exactly where each of its checks does.
-- Each by cases of the first check. Assumes nothing.
use Prim.Native.Nat.{ℕ}
use mathlib.Core.Path.{◌≡◌, refl, sym, ap, ◌∙◌}
use mathlib.Core.Logic.{◌⊎◌, inl, inr}
use mathlib.Core.Bool.{Bool, true, false, ◌||◌}
use mathlib.Core.List.{List, [], ◌∷◌, ◌++◌}
use native.Mathlib.Omega.{arith}
use Rattle.answer.specs.Refuse.{refuse_if}
use Rattle.answer.specs.First.{or, first}
use Rattle.answer.specs.declared.Case.{Case}
use Rattle.answer.specs.declared.Refusal.{Refusal}
use Rattle.std.specs.Prelude.{Ok, Err}
use Rattle.answer.specs.Check.{Check}

pub or_assoc : (c d e : Check) → or (or c d) e ≡ or c (or d e)
or_assoc (Ok _) d e = refl
or_assoc (Err r) d e = refl

pub or_passed : (c : Check) → or c (Ok tt) ≡ c
or_passed (Ok _) = refl
or_passed (Err r) = refl

pub first-append : (k l : List Check) → first (k ++ l) ≡ or (first k) (first l)
first-append [] l = refl
first-append (c ∷ k) l = rw (first-append k l) (sym (or_assoc c (first k) (first l)))

-- One check more, at the end.
pub first_last : (k : List Check) (c : Check) → first (k ++ (c ∷ [])) ≡ or (first k) c
first_last k c = first-append k (c ∷ []) ∙ ap (or (first k)) (or_passed c)

pub or_both : {r a b c d : Check} → r ≡ or a b → a ≡ c → b ≡ d → r ≡ or c d
or_both {a = a} {d = d} e h k = e ∙ ap (or a) k ∙ ap (λ (x : Check). or x d) h

-- Two checks of one case, one after the other, refuse where one test holds or the other.
pub or_either : (s t : Bool) (k : Case) (ring place : ℕ) {x y : Check} → x ≡ refuse_if s k ring place → y ≡ refuse_if t k ring place → or x y ≡ refuse_if (s || t) k ring place
or_either true t k ring place e d = rw e
or_either false t k ring place e d = rw (e, d)

-- A match on what the first checks found.
pub or-go_on : {found before after r : Check} → found ≡ before → found ≡ Ok tt → r ≡ after → r ≡ or before after
or-go_on {after = after} e p h = h ∙ ap (λ (x : Check). or x after) (sym p ∙ e)

pub or-stop : {found before : Check} {r : Refusal} (after : Check) → found ≡ before → found ≡ Err r → Err r ≡ or before after
or-stop after e p = ap (λ (x : Check). or x after) (sym p ∙ e)

pub both : (c d : Check) → or c d ≡ Ok tt → (c ≡ Ok tt) × (d ≡ Ok tt)
both (Ok _) d e = (refl, e)
both (Err r) d e = absurd (let z : ◌≡◌ {A = ℕ} 0 1 = cc in omega arith)

pub cut : (k l : List Check) → first (k ++ l) ≡ Ok tt → (first k ≡ Ok tt) × (first l ≡ Ok tt)
cut k l e = both (first k) (first l) (sym (first-append k l) ∙ e)

-- Never both.
pub passed_refused : {c : Check} {r : Refusal} → c ≡ Ok tt → c ≡ Err r → ⊥
passed_refused e d = let z : ◌≡◌ {A = ℕ} 0 1 = cc in omega arith

-- Of two, the first refuses, or passes and the second does.
pub or_refused : (c d : Check) (r : Refusal) → or c d ≡ Err r → (c ≡ Err r) ⊎ ((c ≡ Ok tt) × (d ≡ Err r))
or_refused (Ok _) d r e = inr (refl, e)
or_refused (Err q) d r e = inl e

pub passes : (b : Bool) (c : Case) (ring place : ℕ) → refuse_if b c ring place ≡ Ok tt → b ≡ false
passes true c ring place e = absurd (let z : ◌≡◌ {A = ℕ} 0 1 = cc in omega arith)
passes false c ring place e = refl

pub refuses : (b : Bool) (c : Case) (ring place : ℕ) (r : Refusal) → refuse_if b c ring place ≡ Err r → (b ≡ true) × (record { case = c; ring = ring; place = place } ≡ r)
refuses true c ring place r e = (refl, cc (e))
refuses false c ring place r e = absurd (passed_refused refl e)

pub neither : (a b : Bool) → (a || b) ≡ false → (a ≡ false) × (b ≡ false)
neither true b e = absurd (let z : ◌≡◌ {A = ℕ} 0 1 = cc in omega arith)
neither false b e = (refl, e)
