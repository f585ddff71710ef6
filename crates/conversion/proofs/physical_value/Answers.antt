-- `conversion::physical_value` meets its contract: the sum is the definition's, since the converted number is. Assumes nothing.
use Rattle.std.proofs.Common.{Bool, ap, sym, ◌∙◌}
use lib.Ieee.{Float, binary32, mul, add}
use Rattle.conversion.specs.Extract.{physical_of}
use Rattle.conversion.proofs.physical_value.Goals as goal
use Rattle.conversion.proofs.physical_value.Goals.{then-signed, else-signed}

pub returns : goal.returns
returns c =
    let a = c.args in
    let made : Float → Float = λ w. add binary32 (mul binary32 w a.scale) a.offset in
    let asked : Bool → Float = λ s. physical_of s a.length a.raw a.scale a.offset in
    elim c.if-signed.branch [
      | then-signed w ↦ ap made (w.converted-is ∙ w.signed_value-converted.ensures) ∙ sym (ap asked w.if-signed.true)
      | else-signed w ↦ ap made (w.converted-is ∙ w.nearest_u64-converted.ensures) ∙ sym (ap asked w.if-signed.false)
    ]
