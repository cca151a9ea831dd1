-- `sheet::numbers_of` meets its contract: a number is the same in the bytes of its own. Assumes nothing.
use Rattle.std.proofs.Common.{◌≡◌, ℕ, List, ap, ◌∙◌, rules}
use Rattle.octets.specs.Numbers.{big_endian}
use Rattle.sheet.specs.Entries.{number_of}
use Rattle.sheet.proofs.Entries.{are_table, number_in}
use Rattle.sheet.proofs.numbers_of.Goals as goal

pub returns : goal.returns
returns c =
    are_table (number_of c.args.step c.args.part.now) c.args.out.now c.read_entries.new.out c.read_entries.auto.out _ c.read_entries.ensures
    (λ i x h r.
    let met = r.says.met in
    let read : x ≡ big_endian 4 r.shown.now 0 = search rules in
    read ∙ ap (λ (l : List ℕ). big_endian 4 l 0) r.shows ∙ number_in c.args.part.now c.args.step i c.requires.wide)
