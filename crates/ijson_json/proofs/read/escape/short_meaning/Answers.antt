use Rattle.std.proofs.Common.{◌≡◌, ℕ, ◌<◌, true, eqb, refl, sym, ◌∙◌, get_or}
use Rattle.ijson_json.specs.declared.read.escape.TheConstants.{MEANINGS}
use Rattle.std.proofs.lemmas.Bool.{agree_below_at, eqb-true}
use Rattle.ijson_json.proofs.reading.Escapes.{meaning_of, meaning_found, meaning_none}
use Rattle.ijson_json.proofs.read.escape.short_meaning.Goals as goal

in_table : (b : ℕ) → b < 128 → get_or MEANINGS b 0 ≡ meaning_of b
in_table b h = eqb-true _ _ (agree_below_at (λ k. eqb (get_or MEANINGS k 0) (meaning_of k)) (λ k. true) 128 b refl h)

pub returns-then-meaning-eq46-clause-value : goal.returns-then-meaning-eq46-clause-value
returns-then-meaning-eq46-clause-value c = sym (meaning_none c.args.letter (sym (in_table c.args.letter c.requires)
    ∙ c.if-meaning-eq46.true))

pub returns-else-meaning-eq46-clause-value : goal.returns-else-meaning-eq46-clause-value
returns-else-meaning-eq46-clause-value c = rw (in_table c.args.letter c.requires)
    (sym (meaning_found c.args.letter (rw (in_table c.args.letter c.requires) at c.if-meaning-eq46.false)).0)

pub returns-else-meaning-eq46-clause-ascii : goal.returns-else-meaning-eq46-clause-ascii
returns-else-meaning-eq46-clause-ascii c = rw (in_table c.args.letter c.requires)
    (meaning_found c.args.letter (rw (in_table c.args.letter c.requires) at c.if-meaning-eq46.false)).1
