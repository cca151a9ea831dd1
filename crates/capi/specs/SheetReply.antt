-- What the reader finds, in numbers: 0 and where the parts lie, or the refusal in document 01's numbers with its offset.
use Rattle.std.specs.Prelude.{Result, Ok, Err, is_some}
use Rattle.answer.specs.Reply.{refusal_reply}
use Rattle.answer.specs.declared.Refusal.{Refusal}
use Rattle.fields.specs.Fields.{or_empty}
use Rattle.sheet.specs.declared.Sheet.{Sheet}
use Rattle.capi.specs.Flag.{flag}
use Rattle.capi.specs.declared.SheetReply as declared

abbrev pub accepted : Sheet → declared.SheetReply
accepted sheet = record {
  number = 0;
  modulus = sheet.modulus;
  place = 0;
  factors_from = sheet.factors.from;
  factors_len = sheet.factors.len;
  pattern_from = sheet.pattern.from;
  pattern_len = sheet.pattern.len;
  readings_present = flag (is_some sheet.readings);
  readings_from = (or_empty sheet.readings).from;
  readings_len = (or_empty sheet.readings).len;
}

abbrev pub refused : Refusal → declared.SheetReply
refused r = record {
  number = (refusal_reply r).number;
  modulus = 0;
  place = (refusal_reply r).place;
  factors_from = 0;
  factors_len = 0;
  pattern_from = 0;
  pattern_len = 0;
  readings_present = 0;
  readings_from = 0;
  readings_len = 0;
}

abbrev pub sheet_reply : Result Sheet Refusal → declared.SheetReply
sheet_reply (Ok sheet) = accepted sheet
sheet_reply (Err r) = refused r
