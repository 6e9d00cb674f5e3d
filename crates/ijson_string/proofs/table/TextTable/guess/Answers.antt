use Rattle.std.proofs.Common.{◌≡◌, ◌∙◌, ◌<◌, ap, sym, length, get_or, arith, rules}
use Rattle.std.proofs.lemmas.Bool.{false≢true}
use Rattle.ijson_string.specs.declared.table.followers.Follower.{Follower}
use Rattle.ijson_string.specs.private.Keys.{no_key}
use Rattle.ijson_string.specs.private.Table.{Table}
use Rattle.ijson_string.proofs.KeysAt.{as_many_keys, text_there}
use Rattle.ijson_string.proofs.table.TextTable.guess.Goals as goal
use Rattle.ijson_string.proofs.table.TextTable.guess.Goals.{else-next-text-via-then-next-text+then-index-len+else-eq_str}
use Rattle.ijson_string.proofs.table.TextTable.guess.Goals.{else-next-text-via-then-next-text+else-index-len}
use Rattle.ijson_string.proofs.table.TextTable.guess.Goals.{else-next-text-via-else-next-text}

pub returns-then-eq_str-clause-found : goal.returns-then-eq_str-clause-found
returns-then-eq_str-clause-found c =
    let links = c.self.inside.links.items in
    let texts = c.self.inside.texts.items in
    let keys = c.args.self.now.keys in
    let are = ap (λ (t : Table). t.keys) c.self.view_is in
    let many = as_many_keys links texts keys c.self.invariant.1 are in
    let at = c.self.inside.followers.next.position in
    let within : at < length keys = omega (arith, many, c.self.invariant.1, c.if-index-len.true, c.len.ensures) in
    let same : c.index.result.now ≡ c.args.text.now = search (rules, c.eq_str.ensures.0 c.if-eq_str.true) in (
      within,
      text_there links texts keys c.self.invariant.1 are at c.index.result.now within c.index.ensures ∙ same,
    )

pub returns-clause-taken : goal.returns-clause-taken
returns-clause-taken c = λ at follows there.
    let links = c.self.inside.links.items in
    let texts = c.self.inside.texts.items in
    let keys = c.args.self.now.keys in
    let are = ap (λ (t : Table). t.keys) c.self.view_is in
    let many = as_many_keys links texts keys c.self.invariant.1 are in
    let next : Follower = c.self.inside.followers.next in
    let is : next ≡ record { position = at; len = length c.args.text.now } = ap (λ (t : Table). t.followers.next) c.self.view_is ∙ follows in
    let its_position : next.position ≡ at = ap (λ (f : Follower). f.position) is in
    let within : next.position < length keys = omega (arith, its_position, there.0) in
    elim c.else-next-text.branch [
      | else-next-text-via-then-next-text+then-index-len+else-eq_str w ↦
          let is_text = text_there links texts keys c.self.invariant.1 are next.position w.index.result.now within w.index.ensures in
          absurd (false≢true (sym w.if-eq_str.false
          ∙ w.eq_str.ensures.1 (sym is_text ∙ ap (λ p. (get_or keys p no_key).text) its_position ∙ there.1)))
      | else-next-text-via-then-next-text+else-index-len w ↦
          absurd (omega (arith, many, c.self.invariant.1, within, w.if-index-len.false, w.len.ensures))
      | else-next-text-via-else-next-text w ↦ absurd (w.if-next-text.false (ap (λ (f : Follower). f.len) is))
    ]
