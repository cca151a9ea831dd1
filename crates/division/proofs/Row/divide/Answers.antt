-- The goals of `division::Row::divide` that the search leaves.
use Prim.Native.Nat.{ℕ, ◌+◌, ◌-◌, ◌%◌, ◌≤◌, ◌<◌}
use native.Mathlib.Omega.{arith}
use Rattle.division.proofs.Dividing.{going_start, longer, going_on, going_end}
use Rattle.division.proofs.Row.divide.Goals as goal

-- Where a turn begins: l or l + 1, whichever is an odd number of places above l1.
abbrev top : ℕ → ℕ → ℕ
top l l1 = l + 1 - (l - l1) % 2

-- It is from l to l + 1, and above l1.
module _ {l l1 : ℕ} (h : l1 ≤ l) where
  top_from : l ≤ top l l1
  top_from = omega arith

  top_to : top l l1 ≤ l + 1
  top_to = omega arith

  top_odd : l1 < top l l1
  top_odd = omega arith

pub loop-self-init : goal.loop-self-init
loop-self-init c = going_start c.requires

pub next-t-requires : goal.next-t-requires
next-t-requires c =
    let h = c.loop-self-test.true in
    longer c.requires c.loop-self.invariant (top_from h) (top_to h) (top_odd h)

pub loop-self-preserved : goal.loop-self-preserved
loop-self-preserved c =
    let h = c.loop-self-test.true in
    going_on c.requires c.loop-self.invariant (top_from h) (top_to h) (top_odd h) c.next-t.ensures c.add_to.ensures c.add_to-in-loop-self.ensures c.trim-self.ensures

pub returns : goal.returns
returns c = going_end c.requires c.loop-self.invariant c.loop-self-test.false
