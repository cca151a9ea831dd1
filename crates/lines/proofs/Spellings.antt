-- Items are spelled in one way, piece by piece, in at most as many bytes as are reserved for them. By recursion on the items. Assumes nothing.
use Prim.Native.Nat.{ℕ, ◌+◌, ◌≤◌, ◌<◌}
use mathlib.Core.Path.{◌≡◌, refl, sym, ap, ◌∙◌}
use mathlib.Core.List.{List, [], ◌∷◌, ◌++◌, append-nil, append_assoc}
use native.Mathlib.Omega.{arith}
use lib.ListN.{length, length-append}
use Rattle.lines.specs.Items.{Item, word, number, Spelled, Spells}
use Rattle.lines.specs.Puts.{most, Low}
use Rattle.lines.proofs.Decimals.{one_decimal, decimal_short}

same_item : (item : Item) {t u : List ℕ} → Spelled item t → Spelled item u → t ≡ u
same_item (word w) e d = e ∙ sym d
same_item (number x) a b = one_decimal a b

pub one_spelling : (items : List Item) {t u : List ℕ} → Spells items t → Spells items u → t ≡ u
one_spelling [] e d = e ∙ sym d
one_spelling (item ∷ items) h k = h.joined ∙ (rw (same_item item h.spelled k.spelled, one_spelling items h.goes_on k.goes_on)) ∙ sym k.joined

-- ---- one after another

pub spelled_alone : (item : Item) (t : List ℕ) → Spelled item t → Spells (item ∷ []) t
spelled_alone item t h = record { head = t; rest = []; spelled = h; goes_on = refl; joined = sym (append-nil t) }

pub spells_append : (items more : List Item) (t u : List ℕ) → Spells items t → Spells more u → Spells (items ++ more) (t ++ u)
spells_append [] more t u e k = rw e k
spells_append (item ∷ items) more t u h k = record {
  head = h.head;
  rest = h.rest ++ u;
  spelled = h.spelled;
  goes_on = spells_append items more h.rest u h.goes_on k;
  joined = ap (λ (l : List ℕ). l ++ u) h.joined ∙ append_assoc h.head h.rest u;
}

-- ---- how many bytes

item_short : (places : ℕ) (item : Item) (t : List ℕ) → 0 < places → Low places (item ∷ []) → Spelled item t → length t ≤ most places (item ∷ [])
item_short places (word w) t some low e = omega (arith, ap length e)
item_short places (number x) t some low a = omega (arith, decimal_short places some low.0 a)

most-cons : (places : ℕ) (item : Item) (items : List Item) → most places (item ∷ items) ≡ most places (item ∷ []) + most places items
most-cons places (word w) items = omega arith
most-cons places (number x) items = omega arith

low_cons : (places : ℕ) (item : Item) (items : List Item) → Low places (item ∷ items) → Low places (item ∷ []) × Low places items
low_cons places (word w) items h = (tt, h)
low_cons places (number x) items h = ((h.0, tt), h.1)

pub spells_short : (places : ℕ) (items : List Item) (t : List ℕ) → 0 < places → Low places items → Spells items t → length t ≤ most places items
spells_short places [] t some low e = omega (arith, ap length e)
spells_short places (item ∷ items) t some low h =
    let parts = low_cons places item items low in
    omega (arith, ap length h.joined, length-append h.head h.rest, most-cons places item items, item_short places item h.head some parts.0 h.spelled, spells_short places items h.rest some parts.1 h.goes_on)

pub most-append : (places : ℕ) (items more : List Item) → most places (items ++ more) ≡ most places items + most places more
most-append places [] more = omega arith
most-append places (item ∷ items) more = omega (arith, most-cons places item (items ++ more), most-cons places item items, most-append places items more)

pub low_append : (places : ℕ) (items more : List Item) → Low places (items ++ more) → Low places items × Low places more
low_append places [] more h = (tt, h)
low_append places (word w ∷ items) more h = low_append places items more h
low_append places (number x ∷ items) more h = let parts = low_append places items more h.1 in ((h.0, parts.0), parts.1)

pub low_join : (places : ℕ) (items more : List Item) → Low places items → Low places more → Low places (items ++ more)
low_join places [] more h k = k
low_join places (word w ∷ items) more h k = low_join places items more h k
low_join places (number x ∷ items) more h k = (h.0, low_join places items more h.1 k)
