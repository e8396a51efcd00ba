use Rattle.generator.proofs.Large.{is_large, is_short, is_faultless}
use Rattle.generator.proofs.laws.generated_is_a_file.Goals as goal

pub returns : goal.returns
returns c = record { large = λ n few. is_large n; short = is_short; faultless = is_faultless }
