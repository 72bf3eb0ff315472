-- Each turn takes a word or more.
use Rattle.command.specs.CommandLine.{words_left}
use Rattle.asm.proofs.options.read.Given as goal

abbrev pub decreases-loop-word : goal.decreases-loop-word
decreases-loop-word l = words_left l.words
