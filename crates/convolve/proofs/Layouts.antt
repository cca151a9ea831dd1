-- The layouts, one store at a time: a filling loop holds the table up to its border, and what stands there one turn back is what goes in.
-- Assumes nothing.
use Prim.Native.Nat.{ℕ, ◌+◌, ◌-◌, ◌%◌, ◌≤◌, ◌<◌}
use mathlib.Core.Path.{◌≡◌, sym, ap, ◌∙◌}
use mathlib.Core.List.{List, ◌++◌}
use native.Mathlib.Omega.{arith}
use native.Mathlib.Nat.{mod-eq_of_lt, add-mod_right}
use lib.ListN.{length, take, drop, set, get_or-append}
use lib.Seq.{take_at, drop_at, length-take-le}
use Rattle.sums.specs.Table.{at}
use Rattle.sums.proofs.Tables.{length-table, at_table, table_low}
use Rattle.sums.proofs.Fill.{fill_none, fill_step, fill_all}
use Rattle.convolve.specs.Layout.{backwards, around}

pub length-backwards : (a : List ℕ) → length (backwards a) ≡ length a
unfolding backwards
length-backwards a = length-table (length a) _

pub at-backwards : (a : List ℕ) (i : ℕ) → i < length a → at (backwards a) i ≡ at a (length a - (i + 1))
unfolding backwards
at-backwards a i h = at_table (length a) _ i h

pub low_backwards : (a : List ℕ) (m : ℕ) → 0 < m → ((i : ℕ) → at a i < m) → (i : ℕ) → at (backwards a) i < m
unfolding backwards
low_backwards a m p h = table_low (length a) m (λ i. at a (length a - (i + 1))) p (λ i. h (length a - (i + 1)))

pub length-around : (e : ℕ) (b : List ℕ) → length (around e b) ≡ e
unfolding around
length-around e b = length-table e _

pub at-around : (e : ℕ) (b : List ℕ) (j : ℕ) → j < e → at (around e b) j ≡ at b (j % length b)
unfolding around
at-around e b j h = at_table e _ j h

pub low_around : (e : ℕ) (b : List ℕ) (m : ℕ) → 0 < m → ((i : ℕ) → at b i < m) → (i : ℕ) → at (around e b) i < m
unfolding around
low_around e b m p h = table_low e m (λ j. at b (j % length b)) p (λ j. h (j % length b))

pub around_none : (b d : List ℕ) → d ≡ around 0 b ++ drop 0 d
unfolding around
around_none b d = fill_none _ d

-- Once laid, what follows is as it was.
pub around_again : (b d d' : List ℕ) (n : ℕ) → d' ≡ around n b ++ drop n d → d' ≡ around n b ++ drop n d'
around_again b d d' n e = e ∙ ap (λ (z : List ℕ). around n b ++ z) (sym (ap (drop n) e ∙ drop_at (around n b) (drop n d) n (length-around n b)))

pub around-step : (b d : List ℕ) (j v : ℕ) → j < length d → v ≡ at b (j % length b) → set (around j b ++ drop j d) j v ≡ around (j + 1) b ++ drop (j + 1) d
unfolding around
around-step b d j v h e = rw e (fill_step (λ j. at b (j % length b)) d j h)

pub around_all : (b d : List ℕ) (j : ℕ) → j ≡ length d → around j b ++ drop j d ≡ around j b
unfolding around
around_all b d j e = fill_all (λ j. at b (j % length b)) d j e

-- What the first turn puts at j, and what a later turn finds one turn back.
pub first_turn : (b : List ℕ) (j : ℕ) → j < length b → at b j ≡ at b (j % length b)
first_turn b j h = ap (λ (z : ℕ). at b z) (sym (mod-eq_of_lt h))

pub turn_back : (b r : List ℕ) (j : ℕ) → 0 < length b → length b ≤ j → at (around j b ++ r) (j - length b) ≡ at b (j % length b)
turn_back b r j p h =
    get_or-append (around j b) r 0 (j - length b) (rw (length-around j b) (omega arith))
    ∙ at-around j b (j - length b) (omega arith)
    ∙ ap (λ (z : ℕ). at b z) (sym (add-mod_right (j - length b) (length b)) ∙ ap (λ (z : ℕ). z % length b) (omega arith))

-- ---- the front of the room that was lent

pub front_backwards : (a l r : List ℕ) → l ≡ backwards a → take (length a) (l ++ r) ≡ backwards a
front_backwards a l r h = rw h (take_at (backwards a) r (length a) (length-backwards a))

pub front_around : (b d l r : List ℕ) (e : ℕ) → e ≤ length d → l ≡ around (length (take e d)) b → take e (l ++ r) ≡ around e b
front_around b d l r e k h = rw (h, length-take-le e d k) (take_at (around e b) r e (length-around e b))
