-- `library::pica_check` meets its contract. Assumes nothing.
use Rattle.std.proofs.Common.{rules}
use Rattle.pica.proofs.Answers.{exactly_clean}
use Rattle.pica.proofs.library.pica_check.Goals as goal

pub returns-clause-exactly : goal.returns-clause-exactly
returns-clause-exactly c = exactly_clean c.args.file.now _ _ c.check.ensures.exactly (search rules) c.packed.ensures
