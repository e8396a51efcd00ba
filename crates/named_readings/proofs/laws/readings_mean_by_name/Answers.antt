use Rattle.formula_ast.specs.Satisfaction.{meaning_of}
use Rattle.named_readings.proofs.Again.{reads_back_means}
use Rattle.named_readings.proofs.laws.readings_mean_by_name.Goals as goal

pub returns : goal.returns
returns c σ bytes names read f g back reads preds v = reads_back_means σ bytes names read f g back reads (meaning_of σ preds) v
