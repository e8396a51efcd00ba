use Rattle.formula_printer.proofs.Levels.{level_iff, level_imp, level_or, level_and, level_others}
use Rattle.formula_printer.proofs.formula.level.Goals as goal

pub returns-in-Iff : goal.returns-in-Iff
returns-in-Iff c σ names = level_iff σ names c.args.f.now c.in-Iff.field-0 c.in-Iff.field-1 c.in-Iff.is

pub returns-in-Imp : goal.returns-in-Imp
returns-in-Imp c σ names = level_imp σ names c.args.f.now c.in-Imp.field-0 c.in-Imp.field-1 c.in-Imp.is

pub returns-in-Or : goal.returns-in-Or
returns-in-Or c σ names = level_or σ names c.args.f.now c.in-Or.field-0 c.in-Or.field-1 c.in-Or.is

pub returns-in-And : goal.returns-in-And
returns-in-And c σ names = level_and σ names c.args.f.now c.in-And.field-0 c.in-And.field-1 c.in-And.is

pub returns-in_default : goal.returns-in_default
returns-in_default c σ names = level_others σ names c.args.f.now c.in_default.not-And c.in_default.not-Or c.in_default.not-Imp c.in_default.not-Iff
