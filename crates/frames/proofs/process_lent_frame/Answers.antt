-- `frames::process_lent_frame` meets its contract: `process` of the effective identifier, the type, the lent bytes and the payload length.
-- Assumes nothing.
use mathlib.Core.Path.{ap, ◌∙◌}
use Prim.Native.Nat.{ℕ}
use Rattle.frames.specs.Frames.{effective_by, effective_of, processed}
use Rattle.frames.proofs.process_lent_frame.Goals as goal

pub returns : goal.returns
unfolding effective_of
returns c =
    let a = c.args in
    let h = a.header in
    c.process.ensures
    ∙ ap (λ (i : ℕ). processed a.engine i h.is_extended a.bytes.now c.payload_by-n.result) c.effective_by.ensures
    ∙ ap (processed a.engine (effective_by h.is_extended h.id) h.is_extended a.bytes.now) c.payload_by-n.ensures
