-- What a host is told, in document 01's numbers and words: "Refusal numbers", 7 and 8, and "The detector". No refusal is number 0.
-- Assumes nothing.
use Rattle.std.specs.Prelude.{false}
use Rattle.detector.specs.declared.EwmaDetector.{EwmaDetector}
use Rattle.detector.specs.Answers.{Configured, configured, unconfigured, Heard, ignored, first_sample, warming, scored}
use Rattle.detector.specs.Ewma.{zero32}
use Rattle.host.specs.declared.MadeDetector.{MadeDetector}
use Rattle.host.specs.declared.SampleAnswer.{SampleAnswer}

-- What a sample was to the detector: ignored 0, the first sample 1, warming 2, scored 3. The first two have no score, which reads +0 and not flagged.
abbrev pub answer_of : Heard → SampleAnswer
answer_of ignored = record { kind = 0; z_score = zero32; is_anomalous = false }
answer_of first_sample = record { kind = 1; z_score = zero32; is_anomalous = false }
answer_of (warming z flag) = record { kind = 2; z_score = z; is_anomalous = flag }
answer_of (scored z flag) = record { kind = 3; z_score = z; is_anomalous = flag }

-- A detector with the settings asked for, or the refusal's number beside the one that stands there otherwise.
abbrev pub handed : EwmaDetector → Configured → MadeDetector
handed otherwise (configured d) = record { refusal = 0; detector = d }
handed otherwise (unconfigured n) = record { refusal = n; detector = otherwise }
