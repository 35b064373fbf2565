use Rattle.store.proofs.Inspecting.{content_determines_inspection}
use Rattle.store.proofs.laws.content_determines_inspection.Goals as goal

pub returns : goal.returns
returns c = content_determines_inspection
