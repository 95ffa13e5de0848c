use Rattle.texts.proofs.text.Text.+append_number.Given as goal

abbrev pub decreases-append_number : goal.decreases-append_number
decreases-append_number g l = l.number
