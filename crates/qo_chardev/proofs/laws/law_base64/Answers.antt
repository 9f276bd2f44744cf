use Rattle.qo_chardev.proofs.Encodings.{texts_are_encodings}
use Rattle.qo_chardev.proofs.laws.law_base64.Goals as goal

pub returns : goal.returns
returns c = texts_are_encodings
