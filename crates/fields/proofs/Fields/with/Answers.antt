-- The goal of `fields::Fields::with` that the search leaves: a tag that the table doesn't have. Assumes nothing.
use Rattle.std.proofs.Common.{sym}
use Rattle.fields.proofs.Table.{kept_unknown}
use Rattle.fields.proofs.Fields.with.Goals as goal

pub returns-in-Err : goal.returns-in-Err
returns-in-Err c come is =
    rw is (sym (kept_unknown come (record { tag = c.args.tag; from = c.args.part.from; len = c.args.part.len }) c.in-Err.ensures))
