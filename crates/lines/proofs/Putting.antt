-- Items written one after another stand as all of them together, and the room for all is room for the first and, after them, for the others. What is
-- written later stands behind what was written before. Assumes nothing.
use Prim.Native.Nat.{ℕ, zero, suc, ◌-◌, ◌/◌, ◌%◌, ◌^◌, ◌≤◌, ◌<◌}
use mathlib.Core.Path.{◌≡◌, refl, ap, subst, ◌∙◌}
use mathlib.Core.List.{List, [], ◌∷◌, ◌++◌, append-nil}
use native.Mathlib.Omega.{arith}
use native.Mathlib.Nat.{pow-zero, pow-suc}
use lib.ListN.{length}
use Rattle.lines.specs.Put.{PutsBytes}
use Rattle.lines.proofs.Bytes.{bytes-length, bytes-append, one-bytes, puts_none}
use Rattle.lines.specs.Decimal.{glyph, Decimal}
use Rattle.lines.specs.Items.{Item, word, number}
use Rattle.lines.specs.Puts.{Puts, Room}
use Rattle.lines.proofs.Decimals.{one_digit, next_digit}
use Rattle.lines.proofs.Spellings.{one_spelling, spelled_alone, spells_append, spells_short, most-append, low_append}

-- ---- items in place

pub puts_length : {items : List Item} {o end : ℕ} {old new : List ℕ} → Puts items o old new end → length new ≡ length old
puts_length p = bytes-length p.stands

pub puts_append : {items more : List Item} {o mid end : ℕ} {old between new : List ℕ} → Puts items o old between mid → Puts more mid between new end → Puts (items ++ more) o old new end
puts_append {items} {more} p q = record {
  spelling = p.spelling ++ q.spelling;
  spells = spells_append items more p.spelling q.spelling p.spells q.spells;
  stands = bytes-append p.stands q.stands;
}

-- What stands is the only thing that may, and ends where it must.
pub one-put : {items : List Item} {o end end' : ℕ} {old new new' : List ℕ} → Puts items o old new end → Puts items o old new' end' → (end ≡ end') × (new ≡ new')
one-put {items} {o} {end' = end'} {old} {new' = new'} p q =
    one-bytes p.stands (subst (λ (t : List ℕ). PutsBytes t o old new' end') (one_spelling items q.spells p.spells) q.stands)

-- ---- room

pub room-first : (items more : List Item) {o : ℕ} {old : List ℕ} → Room (items ++ more) o old → Room items o old
room-first items more r = record {
  places = r.places;
  some = r.some;
  low = (low_append r.places items more r.low).0;
  inside = omega (arith, r.inside, most-append r.places items more);
}

pub room_next : (items more : List Item) {o mid : ℕ} {old between : List ℕ} → Room (items ++ more) o old → Puts items o old between mid → Room more mid between
room_next items more r p =
    let parts = low_append r.places items more r.low in
    record {
      places = r.places;
      some = r.some;
      low = parts.1;
      inside = omega (arith, r.inside, most-append r.places items more, p.stands.ends, puts_length p, spells_short r.places items p.spelling r.some parts.0 p.spells);
    }

-- ---- nothing, and words

pub puts_nothing : {items : List Item} {o : ℕ} {old : List ℕ} → Room items o old → Puts [] o old old o
puts_nothing r = record { spelling = []; spells = refl; stands = puts_none (omega (arith, r.inside)) }

pub puts_word : {w : List ℕ} {o end : ℕ} {old new : List ℕ} → PutsBytes w o old new end → Puts (word w ∷ []) o old new end
puts_word {w} p = record { spelling = w; spells = spelled_alone (word w) w refl; stands = p }

-- ---- digits

tenth : {x : ℕ} (k : ℕ) → 10 ≤ x → x < 10 ^ k → (1 < k) × (x / 10 < 10 ^ (k - 1))
tenth zero h low = absurd (omega (arith, pow-zero 10))
tenth (suc zero) h low = absurd (omega (arith, pow-zero 10, pow-suc 10 zero))
tenth (suc (suc k)) h low = (omega arith, omega (arith, pow-suc 10 (suc k), ap (λ (j : ℕ). 10 ^ j) {x = suc (suc k) - 1} {y = suc k} (omega arith)))

pub room_tenth : {x o : ℕ} {old : List ℕ} → 10 ≤ x → Room (number x ∷ []) o old → Room (number (x / 10) ∷ []) o old
room_tenth h r = let low = tenth r.places h r.low.0 in record { places = r.places - 1; some = omega arith; low = (low.1, tt); inside = omega (arith, r.inside) }

pub puts_digit : {x o end : ℕ} {old new : List ℕ} → x < 10 → PutsBytes (glyph x ∷ []) o old new end → Puts (number x ∷ []) o old new end
puts_digit {x} low p = record { spelling = glyph x ∷ []; spells = spelled_alone (number x) (glyph x ∷ []) (one_digit x low); stands = p }

-- After the other digits, of a tenth or of less, there is room for the last.
pub last_inside : {x y o mid : ℕ} {old between : List ℕ} → 10 ≤ x → y ≤ x / 10 → Room (number x ∷ []) o old → Puts (number y ∷ []) o old between mid → mid < length between
last_inside {y = y} h less r p =
    let low = tenth r.places h r.low.0 in
    omega (arith, p.stands.ends, puts_length p, r.inside, spells_short (r.places - 1) (number y ∷ []) p.spelling (omega arith) (omega (arith, low.1), tt) p.spells)

pub puts_last : {x y o mid end : ℕ} {old between new : List ℕ} → 10 ≤ x → y ≡ x / 10 → Puts (number y ∷ []) o old between mid → PutsBytes (glyph (x % 10) ∷ []) mid between new end → Puts (number x ∷ []) o old new end
puts_last {x} h tenth p q = record {
  spelling = p.spelling ++ (glyph (x % 10) ∷ []);
  spells = spelled_alone (number x) (p.spelling ++ (glyph (x % 10) ∷ [])) (rw whole (next_digit x h (subst (λ (z : ℕ). Decimal z p.spells.head) tenth p.spells.spelled)));
  stands = bytes-append p.stands q;
}
  where
    whole : p.spelling ≡ p.spells.head
    whole = p.spells.joined ∙ (rw p.spells.goes_on) ∙ append-nil p.spells.head
