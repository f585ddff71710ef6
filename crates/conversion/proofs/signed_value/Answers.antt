-- `conversion::signed_value` meets its contract, by `proofs/Shifted.antt`. Assumes nothing.
use Rattle.std.proofs.Common.{ℕ, ℤ, ◌-◌, ◌*◌, ◌%◌, ◌^◌, w64, to_z, ap, ◌∙◌}
use lib.Ieee.{binary32, of_int}
use lib.Signed.{mag_shr, shr_z}
use mir.Val.{SFits, of_z}
use mir.ValLaws.{sfits_le}
use mir.Facts.{to_z-of_z}
use Rattle.conversion.proofs.Shifted.{shifted_back}
use Rattle.conversion.proofs.signed_value.Goals as goal

pub returns : goal.returns
returns c =
    let a = c.args in
    let p : ℕ = 2 ^ (64 - c.from-above.result) in
    let z : ℤ = c.cast_signed.result in
    let fits : SFits w64 z = record { sfits = c.cast_signed.type_inv } in
    let back : SFits w64 (shr_z z p) = sfits_le (mag_shr z p) fits in
    c.nearest_i64.ensures ∙ ap (of_int binary32)
    (ap (λ (y : ℤ). to_z w64 (of_z w64 (shr_z y p))) (to_z-of_z fits) ∙ to_z-of_z back
    ∙ ap (λ (y : ℤ). shr_z y p) c.cast_signed.ensures
    ∙ ap (λ (k : ℕ). shr_z (to_z w64 (a.raw * 2 ^ (64 - k) % 2 ^ 64)) (2 ^ (64 - k))) c.from-above.ensures
    ∙ shifted_back a.length a.raw c.requires)
