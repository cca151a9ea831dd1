-- `sheet::exponents_of` meets its contract: an exponent is the last of the bytes of its entry. Assumes nothing.
use Rattle.std.proofs.Common.{◌≡◌, ℕ, List, ap, ◌∙◌, rules}
use Rattle.sums.specs.Table.{at}
use Rattle.sheet.specs.Entries.{exponent_of}
use Rattle.sheet.proofs.Entries.{are_table, exponent_in}
use Rattle.sheet.proofs.exponents_of.Goals as goal

pub returns : goal.returns
returns c =
    are_table (exponent_of c.args.part.now) c.args.out.now c.read_entries.new.out c.read_entries.auto.out _ c.read_entries.ensures
    (λ i x h r.
    let met = r.says.met in
    let read : x ≡ at r.shown.now 4 = search rules in
    read ∙ ap (λ (l : List ℕ). at l 4) r.shows ∙ exponent_in c.args.part.now i)
