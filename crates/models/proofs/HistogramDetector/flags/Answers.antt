-- `models::HistogramDetector::flags` meets its contract.
-- Assumes nothing.
use mathlib.Core.Path.{◌≡◌, refl, sym, ap, ◌∙◌}
use mathlib.Core.Bool.{Bool, true, false, not}
use Prim.Native.Nat.{ℕ}
use lib.Ieee.{lt}
use lib.ListN.{get_or}
use Rattle.models.specs.Counts.{ratio}
use Rattle.models.proofs.Parts.{unseen, by_ratio}
use Rattle.models.proofs.HistogramDetector.flags.Goals as goal

unset : (b : Bool) → not b ≡ true → b ≡ false
unset true h = sym h
unset false h = refl

pub returns-then-not-known : goal.returns-then-not-known
returns-then-not-known c =
    let a = c.args in
    ap not c.if-not-known.true
    ∙ sym (unseen a.self a.counts.now a.value a.threshold (unset a.self.saturated c.if-self-ne0.true.0) c.if-self-ne0.true.1 (sym c.has-known.ensures ∙ c.if-not-known.true))

pub returns-else-not-known : goal.returns-else-not-known
returns-else-not-known c =
    let a = c.args in
    ap (λ x. lt x a.threshold) (c.ratio_of.ensures ∙ ap (λ (i : ℕ). ratio (get_or a.counts.now i 0) a.self.total) c.index-i.ensures.0)
    ∙ sym (by_ratio a.self a.counts.now a.value a.threshold (unset a.self.saturated c.if-self-ne0.true.0) c.if-self-ne0.true.1 (sym c.has-known.ensures ∙ c.if-not-known.false))
