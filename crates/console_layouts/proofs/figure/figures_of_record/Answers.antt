-- `console_layouts::figure::figures_of_record` meets its contract.
-- Assumes nothing.
use mathlib.Core.Path.{◌≡◌, refl}
use Rattle.std.proofs.Common.{Ok, Err}
use Rattle.cluster_record.specs.RecordClusterAnswer.{read_as}
use Rattle.answers.specs.TermsAnswers.{reading}
use Rattle.answers.proofs.Answered.{unread}
use Rattle.console_layouts.specs.TermsConsoleLayouts.{figured, figures_left}
use Rattle.console_layouts.proofs.figure.figures_of_record.Goals as goal

pub returns-in-Ok-figures : goal.returns-in-Ok-figures
unfolding figured figures_left
returns-in-Ok-figures c =
    let r : read_as (Ok c.in-Ok.c) ≡ reading c.args.bytes.now = c.in-Ok.ensures in
    rw (← r) (c.in-Ok-figures.ensures.answer, refl, c.figures.ensures.cells)

pub returns-in-Err-figures : goal.returns-in-Err-figures
unfolding figured figures_left
returns-in-Err-figures c =
    let r : read_as (Ok c.in-Ok.c) ≡ reading c.args.bytes.now = c.in-Ok.ensures in
    rw (c.into.ensures, ← r) (c.in-Err-figures.ensures.answer, refl, c.figures.ensures.cells)

pub returns-in-Err : goal.returns-in-Err
unfolding figured figures_left
returns-in-Err c =
    let r : read_as (Err c.in-Err.refused) ≡ reading c.args.bytes.now = c.in-Err.ensures in
    rw (c.into-in-Err.ensures, ← r) (unread _ c.in-Err.refused, refl, unread _ c.in-Err.refused)
