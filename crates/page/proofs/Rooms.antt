-- A buffer of `text_room` bytes has room for every page: n is at most 1,024, each number of a ring has at most as many digits as the largest modulus, and
-- a refusal has three numbers at most, of 64 bits. Assumes nothing.
use Prim.Native.Nat.{ℕ, ◌+◌, ◌*◌, ◌^◌, ◌≤◌, ◌<◌}
use mathlib.Core.Path.{◌≡◌}
use mathlib.Core.List.{List, [], ◌++◌}
use mathlib.Core.Option.{none, some}
use native.Mathlib.Omega.{arith}
use native.Mathlib.Decide.{dec_le}
use lib.ListN.{length}
use Rattle.limits.specs.Limits.{most_entries, most_modulus, most_digits}
use Rattle.ring.specs.Ring.{Ring}
use Rattle.answer.specs.declared.Told.{Told}
use Rattle.answer.specs.declared.Told.TheVariants.{Nothing, Ring as ring-told, RingAndPlace, RingAndPrime, Place}
use Rattle.lines.specs.Items.{Item, numbers}
use Rattle.lines.specs.Lines.{after, newline}
use Rattle.lines.specs.Puts.{Low, most, Room}
use Rattle.lines.proofs.Spellings.{low_join, most-append}
use Rattle.lines.proofs.Putting.{puts_length}
use Rattle.lines.proofs.Rows.{low_ring, most_ring}
use Rattle.page.specs.Outcome.{singular, inverted}
use Rattle.page.specs.Page.{refused_line, counts_line, page}
use Rattle.page.specs.Report.{text_room, Reports}

-- ---- rings

module _ {n m : ℕ} (few : n ≤ most_entries) (high : m ≤ most_modulus) where
  -- The entries and the line's end.
  low_rest : {g : List ℕ} → Ring n m g → Low most_digits (after (numbers g) ++ newline)
  low_rest {g} r = low_join most_digits (after (numbers g)) newline (low_ring most_digits g (λ i h. omega (arith, r.long, r.low i (omega (arith, r.long))))) tt

  most_rest : {g : List ℕ} → Ring n m g → most most_digits (after (numbers g) ++ newline) ≡ n * (1 + most_digits) + 1
  most_rest {g} r = omega (arith, most-append most_digits (after (numbers g)) newline, most_ring most_digits g, r.long)

  module _ {old : List ℕ} (room : text_room ≤ length old) where
    pub inverse_room : {g : List ℕ} → Ring n m g → Room (page n m (inverted g none)) 0 old
    inverse_room {g} r = record {
      places = most_digits;
      some = omega arith;
      low = (omega arith, (omega arith, low_join most_digits (after (numbers g) ++ newline) [] (low_rest r) tt));
      inside = omega (arith, most-append most_digits (after (numbers g) ++ newline) [], most_rest r);
    }

    pub ghost_room : {p : ℕ} {w : List ℕ} → p ≤ m → Ring n m w → Room (page n m (singular p w)) 0 old
    ghost_room {p} {w} low r = record {
      places = most_digits;
      some = omega arith;
      low = (omega arith, (omega arith, (omega arith, low_rest r)));
      inside = omega (arith, most_rest r);
    }

    pub counts_room : {g c : List ℕ} → Ring n m g → Ring n m c → Room (page n m (inverted g (some c))) 0 old
    counts_room {g} {c} r s = record {
      places = most_digits;
      some = omega arith;
      low = (omega arith, (omega arith, low_join most_digits (after (numbers g) ++ newline) (counts_line (some c)) (low_rest r) (low_rest s)));
      inside = omega (arith, most-append most_digits (after (numbers g) ++ newline) (counts_line (some c)), most_rest r, most_rest s);
    }

-- ---- refusals

module _ {k ring place : ℕ} (low : k < 2 ^ 64) (low' : ring < 2 ^ 64) (low'' : place < 2 ^ 64) {old : List ℕ} (room : text_room ≤ length old) where
  wide_room : (items : List Item) → Low 20 items → most 20 items ≤ 128 → Room items 0 old
  wide_room items h few = record { places = 20; some = omega arith; low = h; inside = omega arith }

  pub refused_room : (told : Told) → Room (refused_line k told ring place) 0 old
  refused_room Nothing = wide_room (refused_line k Nothing ring place) (omega arith, tt) (omega arith)
  refused_room ring-told = wide_room (refused_line k ring-told ring place) (omega arith, (omega arith, tt)) (omega arith)
  refused_room RingAndPlace = wide_room (refused_line k RingAndPlace ring place) (omega arith, (omega arith, (omega arith, tt))) (omega arith)
  refused_room RingAndPrime = wide_room (refused_line k RingAndPrime ring place) (omega arith, (omega arith, tt)) (omega arith)
  refused_room Place = wide_room (refused_line k Place ring place) (omega arith, (omega arith, tt)) (omega arith)

-- ---- the whole

-- A text ends in its buffer.
pub report_inside : {s old new : List ℕ} {end : ℕ} → Reports s old new end → end ≤ length new
report_inside {old = old} r = elim (dec_le text_room (length old)) [
  | yes h ↦ let p = (r.prints h).puts in omega (arith, p.stands.inside, puts_length p)
  | no h ↦ let x = r.leaves (omega arith) in omega (arith, x.0)
]
