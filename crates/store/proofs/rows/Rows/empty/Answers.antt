use Rattle.store.proofs.Tables.{all_empty}
use Rattle.store.proofs.rows.Rows.empty.Goals as goal

pub returns : goal.returns
returns c = all_empty c.empty.result c.empty.ensures
