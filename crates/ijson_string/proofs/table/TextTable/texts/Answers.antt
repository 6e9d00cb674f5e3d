use Rattle.std.proofs.Common.{◌∙◌, ap, sym}
use Rattle.std.proofs.lemmas.List.{length-map}
use Rattle.ijson_string.specs.private.Keys.{texts_of}
use Rattle.ijson_string.specs.private.Table.{Table}
use Rattle.ijson_string.proofs.KeysAt.{texts-keys}
use Rattle.ijson_string.proofs.table.TextTable.texts.Goals as goal

pub returns : goal.returns
returns c =
    c.deref.ensures.value
    ∙ sym (texts-keys _ c.self.inside.texts.items (c.self.invariant.1 ∙ sym (length-map c.self.inside.links.items (λ l. l.hash))))
    ∙ ap (λ (t : Table). texts_of t.keys) c.self.view_is
