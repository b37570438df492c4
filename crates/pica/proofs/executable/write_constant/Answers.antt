-- `executable::write_constant` meets its contract. Assumes nothing.
use Rattle.pica.proofs.Answers.{handed_numbers}
use Rattle.pica.proofs.executable.write_constant.Goals as goal

pub pattern_numbers-requires : goal.pattern_numbers-requires
pattern_numbers-requires c = handed_numbers c.args.file.now c.args.executable c.args.n c.constant.ensures.answers c.in_ok-value.was c.in-Vector.is
