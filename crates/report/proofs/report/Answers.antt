-- The goal of `report::report` that the search leaves: of a sheet that is refused, the refusal is the text.
use native.Mathlib.Omega.{arith}
use Rattle.report.proofs.Reading.{reports_refused}
use Rattle.report.proofs.report.Goals as goal

pub returns-in-Err : goal.returns-in-Err
returns-in-Err c = reports_refused _ c.read.ensures c.in-Err.is (omega arith) c.put_refusal.ensures
