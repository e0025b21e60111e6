use Rattle.search.proofs.SearchOverAText.{search_begins}
use Rattle.search.proofs.opening_after.Goals as goal

pub loop-here-init : goal.loop-here-init
loop-here-init c = search_begins _ _ _
