use Rattle.std.proofs.Common.{◌≡◌, ◌⊎◌, inl, inr, ◌<◌, ℕ, List, [], ◌∷◌, ◌++◌, Option, None, Some, Ok, Err}
use Rattle.std.proofs.Common.{ap, refl, ◌∙◌, append-nil, arith}
use Rattle.std.specs.Prelude.{◌≢◌, ◌↔◌, Result, IfOk, IfErr, OnOk, IfSome, IsUtf8, ⊤}
use Rattle.std.specs.Io.KnownBytes.{Appends, Consumes, IsAtEnd, Keeps}
use Rattle.std.proofs.KnownBytes.{Keeps-refl}
use Rattle.std.proofs.lemmas.Result.{err_from_is_err_and}
use Rattle.ijson_string.specs.Cache.{Texts}
use Rattle.ijson_value.specs.WellFormed.{WellFormed}
use Rattle.ijson_json.specs.AddsOnlyRead.{AddsOnlyRead}
use Rattle.ijson_json.specs.AreShared.{AreShared, SharesTextsOf}
use Rattle.ijson_json.specs.CompactErrorOf.{compact_error_of}
use Rattle.ijson_json.specs.CompactRefusal.{IsCompactRefusal}
use Rattle.ijson_json.specs.Compacts.{WritesLine, BeginsLine, AddsOnlyLeft}
use Rattle.ijson_json.specs.Grammar.{Accepted}
use Rattle.ijson_json.specs.Print.{print}
use Rattle.ijson_json.specs.Refuses.{Refuses}
use Rattle.ijson_json.specs.ErrorOf.{IsErrorOf}
use Rattle.ijson_json.specs.WritesBeginning.{WritesBeginning}
use Rattle.ijson_json.specs.declared.compacting.CompactError.{CompactError}
use Rattle.ijson_json.specs.declared.compacting.CompactError.TheVariants as errors
use Rattle.ijson_json.specs.declared.fault.JsonError.{JsonError}
use Rattle.ijson_json.specs.declared.fault.JsonError.TheVariants as json
use Rattle.ijson_json.proofs.reading.CacheContents.{adds_none}
use Rattle.ijson_json.proofs.devices.TransferredBytes.{known_or_none}
use Rattle.ijson_json.proofs.compacting.compact_value.Goals as goal

err_inj : {T E : Type 0} {a b : E} → ◌≡◌ {A = Result T E} (Err a) (Err b) → a ≡ b
err_inj h = cc

module _ (r : Result WellFormed CompactError) (left rest got got' : Option (List ℕ)) (before after failed failed' : ℕ)
    (old new : Texts) where
  -- The clauses of `compact_value`, for a result `r` and the states before and after the call.
  abbrev Compacted : Type 0
  Compacted = record {
    read : (r ≡ Err errors.Read) ↔ (before < after);
    write : (r ≡ Err errors.Write) ↔ (failed < failed');
    done : OnOk r (WritesLine left rest got got');
    beginning : r ≡ Err errors.Write → BeginsLine left got got';
    nothing : IfErr r (λ e. e ≢ errors.Write → Keeps got got');
    error : IfErr r (λ e. IfSome left (λ bytes. IsCompactRefusal bytes e));
    never_memory : r ≢ Err (errors.Json json.Memory);
    cache : AddsOnlyLeft left old new;
    unread : (r ≡ Err errors.Read) ⊎ (r ≡ Err errors.NotUtf8) → new ≡ old;
    shared : OnOk r (IfSome left (λ bytes. SharesTextsOf bytes new));
    value : IfOk r (λ value. IfSome left (λ bytes. Accepted bytes value.tree));
  }

  refused : (e : CompactError) → r ≡ Err e → ((e ≡ errors.Read) ↔ (before < after)) → ((e ≡ errors.Write) ↔ (failed < failed'))
      → (e ≡ errors.Write → BeginsLine left got got') → (e ≢ errors.Write → Keeps got got') → e ≢ errors.Json json.Memory
      → IfSome left (λ bytes. IsCompactRefusal bytes e) → AddsOnlyLeft left old new
      → ((e ≡ errors.Read) ⊎ (e ≡ errors.NotUtf8) → new ≡ old) → Compacted
  refused e is read write beginning nothing not_memory why adds unread = rw is (record {
    read = ((λ q. read.0 (err_inj q)), (λ l. ap Err (read.1 l)));
    write = ((λ q. write.0 (err_inj q)), (λ l. ap Err (write.1 l)));
    done = tt;
    beginning = λ q. beginning (err_inj q);
    nothing = nothing;
    error = why;
    never_memory = λ q. not_memory (err_inj q);
    cache = adds;
    unread = λ s. unread (elim s [ inl q ↦ inl (err_inj q) | inr q ↦ inr (err_inj q) ]);
    shared = tt;
    value = tt;
  })

-- If an error occurs before anything is written, the clauses about reading and the cache imply all
-- clauses of `compact_value`.
unwritten : (r : Result WellFormed CompactError) (left rest got : Option (List ℕ)) (before after failed : ℕ) (old new : Texts)
    (e : CompactError) → r ≡ Err e → ((e ≡ errors.Read) ↔ (before < after)) → e ≢ errors.Write → e ≢ errors.Json json.Memory
    → IfSome left (λ bytes. IsCompactRefusal bytes e) → AddsOnlyLeft left old new
    → ((e ≡ errors.Read) ⊎ (e ≡ errors.NotUtf8) → new ≡ old) → Compacted r left rest got got before after failed failed old new
unwritten r left rest got before after failed old new e is read not_write = refused r left rest got got before after failed failed old new
    e is read ((λ q. absurd (not_write q)), (λ l. absurd (omega (arith, l)))) (λ q. absurd (not_write q)) (λ _. Keeps-refl got)

-- `⊤` holds for the bytes of a source, known or unknown.
unsaid : (left : Option (List ℕ)) → IfSome left (λ _. ⊤)
unsaid None = tt
unsaid (Some bytes) = tt

text_error : {S : Type 0} (left : Option (List ℕ)) (e : CompactError) → (e ≡ errors.Read) ⊎ (e ≡ errors.NotUtf8) ⊎ (e ≡ errors.Memory)
    → (◌≡◌ {A = Result S CompactError} (Err e) (Err errors.NotUtf8) → IfSome left (λ bytes. ¬ (IsUtf8 bytes)))
    → (e ≢ errors.Write) × (e ≢ errors.Json json.Memory) × IfSome left (λ bytes. IsCompactRefusal bytes e)
text_error left e (inl is) why = rw is ((λ q. cc), (λ q. cc), unsaid left)
text_error left e (inr (inl is)) why = rw is ((λ q. cc), (λ q. cc), why (ap Err is))
text_error left e (inr (inr is)) why = rw is ((λ q. cc), (λ q. cc), unsaid left)

pub returns-in_err-text : goal.returns-in_err-text
returns-in_err-text g c =
    let p = err_from_is_err_and c.from_residual.result c.from_residual.ensures.1 in
    let e = c.in_err-text.field-0.0 in
    let left = g.R.Source.left c.args.input.now in
    let found = c.in_err-text.ensures in
    let error = text_error left e found.error found.refused in
    let read = known_or_none left in
    unwritten c.from_residual.result left (g.R.Source.left c.remaining_text.new.input) (g.W.Sink.got c.args.output.now) _ _
    (g.W.Sink.failed c.args.output.now)
    c.args.cache.now c.args.cache.now e (p.1 ∙ ap Err p.2) ((λ q. found.read.0 (ap Err q)), (λ l. err_inj (found.read.1 l)))
    error.0 error.1 error.2 (read.0, read.1, adds_none read.0 c.args.cache.now) (λ _. refl)

-- If a source is at its end after reading `bytes`, its known remaining bytes were `bytes`.
all_read : (left rest : Option (List ℕ)) (bytes : List ℕ) → Consumes left rest bytes → IsAtEnd rest
    → IfSome left (λ xs. (xs ≡ bytes) × (rest ≡ Some []))
all_read None rest bytes read end = tt
all_read (Some xs) None bytes read end = absurd read
all_read (Some xs) (Some ys) bytes read end = (read ∙ ap (λ l. bytes ++ l) end ∙ append-nil bytes, ap Some end)

-- If `P` holds for the bytes read, and the source is at its end, `P` holds for the source's known
-- bytes.
said : (P : List ℕ → Type 0) (left rest : Option (List ℕ)) (bytes : List ℕ) → IfSome left (λ xs. (xs ≡ bytes) × (rest ≡ Some []))
    → (rest ≡ Some [] → P bytes) → IfSome left P
said P None rest bytes is p = tt
said P (Some xs) rest bytes is p = rw is.0 (p is.1)

value_error : (left rest : Option (List ℕ)) (bytes : List ℕ) (e : JsonError) → IfSome left (λ xs. (xs ≡ bytes) × (rest ≡ Some []))
    → IsUtf8 bytes → Refuses bytes e → (e ≢ json.Memory → IsErrorOf bytes e)
    → (compact_error_of e ≢ errors.Read) × (compact_error_of e ≢ errors.NotUtf8) × (compact_error_of e ≢ errors.Write)
    × (compact_error_of e ≢ errors.Json json.Memory) × IfSome left (λ xs. IsCompactRefusal xs (compact_error_of e))
value_error left rest bytes json.Memory is utf8 why error = ((λ q. cc), (λ q. cc), (λ q. cc), (λ q. cc), unsaid left)
value_error left rest bytes e is utf8 why error =
    ((λ q. cc), (λ q. cc), (λ q. cc), (λ q. cc), said _ left rest bytes is (λ _. (utf8, why, error (λ q. cc))))

pub returns-in_err-value : goal.returns-in_err-value
returns-in_err-value g c =
    let p = err_from_is_err_and c.from_residual-in_err-value.result c.from_residual-in_err-value.ensures.1 in
    let e = c.in_err-value.field-0.0 in
    let left = g.R.Source.left c.args.input.now in
    let rest = g.R.Source.left c.remaining_text.new.input in
    let bytes = c.as_str.result.now in
    let text = c.in_ok-text.ensures.text in
    let all = all_read left rest bytes (rw c.as_str.ensures.value text.1) text.2 in
    let error = value_error left rest bytes e all (rw c.as_str.ensures.value text.0) c.in_err-value.ensures.refused c.in_err-value.ensures.error in
    unwritten c.from_residual-in_err-value.result left rest (g.W.Sink.got c.args.output.now) _ _ (g.W.Sink.failed c.args.output.now)
    c.args.cache.now c.from_json.new.cache (compact_error_of e) (p.1 ∙ ap Err p.2)
    ((λ q. absurd (error.0 q)), (λ l. let q = c.in_ok-text.ensures.read.1 l in cc)) error.2 error.3 error.4
    (bytes, said _ left rest bytes all (λ _. refl), c.in_err-value.ensures.cache)
    (λ s. elim s [ inl q ↦ absurd (error.0 q) | inr q ↦ absurd (error.1 q) ])

line_error : (left : Option (List ℕ)) (K : Type 0) (e : CompactError) → (e ≢ errors.Write → (e ≡ errors.Memory) × K)
    → (e ≢ errors.Read) × (e ≢ errors.NotUtf8) × (e ≢ errors.Json json.Memory) × IfSome left (λ bytes. IsCompactRefusal bytes e)
line_error left K errors.Write h = ((λ q. cc), (λ q. cc), (λ q. cc), unsaid left)
line_error left K errors.Memory h = ((λ q. cc), (λ q. cc), (λ q. cc), unsaid left)
line_error left K e h = let m = (h (λ q. cc)).0 in absurd cc

-- The clauses of `compact_value` hold after `write_line`, with its value or its error.
line : (r : Result WellFormed CompactError) (left rest got got' : Option (List ℕ)) (before after failed failed' : ℕ) (old new : Texts)
    (bytes : List ℕ) (v : WellFormed) → IfSome left (λ xs. (xs ≡ bytes) × (rest ≡ Some [])) → IsUtf8 bytes → Accepted bytes v.tree
    → AreShared new v.tree → AddsOnlyRead bytes old new → (before < after → ⊥)
    → IfOk r (λ w. (w ≡ v) × Appends got got' (print v.tree ++ 10 ∷ [])) → ((r ≡ Err errors.Write) ↔ (failed < failed'))
    → (r ≡ Err errors.Write → WritesBeginning got got' (print v.tree ++ 10 ∷ []))
    → IfErr r (λ e. e ≢ errors.Write → (e ≡ errors.Memory) × Keeps got got')
    → Compacted r left rest got got' before after failed failed' old new
line (Ok w) left rest got got' before after failed failed' old new bytes v all utf8 accepted shared adds none is write begins _ = record {
  read = ((λ q. cc), (λ l. absurd (none l)));
  write = write;
  done = said _ left rest bytes all (λ end.
      (end, (print v.tree ++ 10 ∷ [], (print v.tree, utf8, (v.tree, accepted, refl), refl), is.1)));
  beginning = λ q. cc;
  nothing = tt;
  error = tt;
  never_memory = λ q. cc;
  cache = (bytes, said _ left rest bytes all (λ _. refl), adds);
  unread = λ s. elim s [ inl q ↦ cc | inr q ↦ cc ];
  shared = said _ left rest bytes all (λ _. (v.tree, accepted, shared));
  value = rw is.0 (said _ left rest bytes all (λ _. accepted));
}
line (Err e) left rest got got' before after failed failed' old new bytes v all utf8 accepted shared adds none is write begins error =
    let not = line_error left (Keeps got got') e error in
    refused (Err e) left rest got got' before after failed failed' old new e refl
    ((λ q. absurd (not.0 q)), (λ l. absurd (none l))) ((λ q. write.0 (ap Err q)), (λ l. err_inj (write.1 l)))
    (λ q. said _ left rest bytes all (λ _.
    (print v.tree ++ 10 ∷ [], (print v.tree, utf8, (v.tree, accepted, refl), refl), begins (ap Err q))))
    (λ n. (error n).1) not.2 not.3 (bytes, said _ left rest bytes all (λ _. refl), adds)
    (λ s. elim s [ inl q ↦ absurd (not.0 q) | inr q ↦ absurd (not.1 q) ])

pub returns : goal.returns
returns g c =
    let left = g.R.Source.left c.args.input.now in
    let rest = g.R.Source.left c.remaining_text.new.input in
    let bytes = c.as_str.result.now in
    let text = c.in_ok-text.ensures.text in
    let found = c.in_ok-value.ensures in
    let written = c.write_line.ensures in
    line c.write_line.result left rest (g.W.Sink.got c.args.output.now) (g.W.Sink.got c.write_line.new.output) _ _
    (g.W.Sink.failed c.args.output.now) (g.W.Sink.failed c.write_line.new.output) c.args.cache.now c.from_json.new.cache
    bytes c.in_ok-value.value (all_read left rest bytes (rw c.as_str.ensures.value text.1) text.2) (rw c.as_str.ensures.value text.0)
    found.accepted found.shared found.cache (λ l. let q = c.in_ok-text.ensures.read.1 l in cc) written.line written.write
    written.beginning written.error
