-- `conversion::extract_signal` meets its contract, by the cases of `proofs/Extracting.antt`. Assumes nothing.
use Rattle.std.proofs.Common.{sym, ◌∙◌, arith}
use Rattle.conversion.proofs.Extracting.{raw_fits, no_value, from_raw}
use Rattle.conversion.proofs.extract_signal.Goals as goal

pub physical_value-requires : goal.physical_value-requires
physical_value-requires c =
    let a = c.args in
    raw_fits a.data.now a.data_len a.definition _ (sym c.in_ok-raw.ensures)

pub returns-in_err-raw : goal.returns-in_err-raw
returns-in_err-raw c =
    let a = c.args in
    let why = no_value a.data.now a.data_len a.definition c.in_err-raw.field-0.0 c.in_err-raw.ensures in
    grind (arith, why)

pub returns : goal.returns
returns c =
    let a = c.args in
    c.finite_only.ensures ∙ from_raw a.data.now a.data_len a.definition _ c.in_ok-raw.ensures _ c.physical_value.ensures
