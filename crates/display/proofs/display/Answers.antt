-- `display::display` meets its contract: a sheet that is refused shows the refusal, and any other is legal. Assumes nothing.
use Rattle.display.proofs.Displaying.{displays_refusal, legal_text}
use Rattle.display.proofs.display.Goals as goal

pub display_legal-requires : goal.display_legal-requires
display_legal-requires c = legal_text _ c.check_held.ensures c.in-Ok.is c.requires

pub returns-in-Err : goal.returns-in-Err
returns-in-Err c = displays_refusal _ c.check_held.ensures c.in-Err.is c.put_refusal.ensures
