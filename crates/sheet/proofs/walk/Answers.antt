-- The goals of `sheet::walk` that the search leaves. Assumes nothing.
use Rattle.std.proofs.Common.{sym, ◌∙◌, arith}
use Rattle.std.proofs.lemmas.Result.{err_from_is_err_and}
use Rattle.fields.specs.Fields.{version_of}
use Rattle.sheet.proofs.Walking.{begins, whole_there, cut_short, refused_there, follows, goes_on, whole_sheet, refused_end}
use Rattle.sheet.proofs.walk.Goals as goal

pub loop-at-init : goal.loop-at-init
loop-at-init c = begins c.args.bytes.now c.none-found.ensures

pub returns-in_err-header : goal.returns-in_err-header
returns-in_err-header c =
    let p = err_from_is_err_and c.from_residual.result c.from_residual.ensures.1 in
    let now = c.loop-at.invariant in
    rw (p.1, p.2) (cut_short c.args.bytes.now c.loop-at.at now.come (omega arith) now.reads c.header_at.result c.header_at.ensures (sym c.ok_or.ensures.value ∙ c.in_err-header.was))

pub returns-in_err-check_value : goal.returns-in_err-check_value
returns-in_err-check_value c =
    let p = err_from_is_err_and c.from_residual-in_err-check_value.result c.from_residual-in_err-check_value.ensures.1 in
    let s = c.args.bytes.now in
    let now = c.loop-at.invariant in
    let whole = whole_there s c.loop-at.at c.header_at.result c.header_at.ensures _ (sym c.ok_or.ensures.value ∙ c.in_ok-header.was) in
    rw (p.1, p.2) (refused_there s c.loop-at.at now.come (omega arith) now.reads whole (sym (c.check_value.ensures now.come now.found_is) ∙ c.in_err-check_value.was))

pub overflow_add-at : goal.overflow_add-at
overflow_add-at c =
    let s = c.args.bytes.now in
    let now = c.loop-at.invariant in
    let whole = whole_there s c.loop-at.at c.header_at.result c.header_at.ensures _ (sym c.ok_or.ensures.value ∙ c.in_ok-header.was) in
    let f = follows s c.loop-at.at now.come (omega arith) now.reads whole (sym (c.check_value.ensures now.come now.found_is) ∙ c.in_ok-check_value.was) in
    omega (arith, f.whole, f.uncut, c.well_formed)

pub loop-at-preserved : goal.loop-at-preserved
loop-at-preserved c =
    let s = c.args.bytes.now in
    let now = c.loop-at.invariant in
    let whole = whole_there s c.loop-at.at c.header_at.result c.header_at.ensures _ (sym c.ok_or.ensures.value ∙ c.in_ok-header.was) in
    goes_on s c.loop-at.at now.come (omega arith) now.reads whole
    (sym (c.check_value.ensures now.come now.found_is) ∙ c.in_ok-check_value.was)
    (c.with-found.ensures now.come now.found_is)

pub returns-in_err-check_end : goal.returns-in_err-check_end
returns-in_err-check_end c =
    let p = err_from_is_err_and c.from_residual-in_err-check_end.result c.from_residual-in_err-check_end.ensures.1 in
    let now = c.loop-at.invariant in
    rw (p.1, p.2) (refused_end c.args.bytes.now now (omega arith) (c.check_end.ensures (version_of c.args.bytes.now now.come) now.come now.found_is) c.in_err-check_end.was)

pub returns : goal.returns
returns c =
    let now = c.loop-at.invariant in
    whole_sheet c.args.bytes.now now (omega arith) (c.check_end.ensures (version_of c.args.bytes.now now.come) now.come now.found_is) c.in_ok-check_end.was
