-- An injective code for trees, by which a proof distinguishes them.
use Rattle.std.proofs.Common.{◌≡◌, ◌==◌, ℕ, List, false, refl, sym, ap, ◌∙◌, eq-eqb}
use mathlib.Core.Bool.{true≢false}
use Rattle.std.specs.Coded.{Coded, coded_bool, coded_list, coded_ℕ}
use base.Stored.{Gv, gnil, gnum, gcons}
use Rattle.ijson_number.specs.laws.Codes.{decimal_code}
use Rattle.ijson_value.specs.Tree.{Tree, null, boolean, number, string, array, object, Items, no_items, item, Members, no_members, member}

-- The code of a string of bytes.
abbrev text_code : Coded (List ℕ)
text_code = coded_list coded_ℕ

-- The first component of a code that is a pair.
abbrev first : Gv → Gv
first gnil = gnil
first (gnum n) = gnil
first (gcons a b) = a

-- The second component of a code that is a pair.
abbrev second : Gv → Gv
second gnil = gnil
second (gnum n) = gnil
second (gcons a b) = b

-- The first number in a code. In the code of a tree, this number determines the kind.
abbrev tag : Gv → ℕ
tag gnil = 0
tag (gnum n) = n
tag (gcons a b) = tag a

apart : (m n : ℕ) → (m == n) ≡ false → m ≡ n → ⊥
apart m n other e = true≢false (sym (eq-eqb m n e) ∙ other)

abbrev mutual
  -- The code of a tree: a number for the kind, paired with the code of the content.
  pub code_t : Tree → Gv
  code_t null = gcons (gnum 0) gnil
  code_t (boolean b) = gcons (gnum 1) (coded_bool.code b)
  code_t (number n) = gcons (gnum 2) (decimal_code.code n)
  code_t (string s) = gcons (gnum 3) (text_code.code s)
  code_t (array ts) = gcons (gnum 4) (code_ts ts)
  code_t (object ps) = gcons (gnum 5) (code_ps ps)

  -- The code of a list of elements.
  pub code_ts : Items → Gv
  code_ts no_items = gnil
  code_ts (item t ts) = gcons (code_t t) (code_ts ts)

  -- The code of a list of members.
  pub code_ps : Members → Gv
  code_ps no_members = gnil
  code_ps (member k t ps) = gcons (text_code.code k) (gcons (code_t t) (code_ps ps))

mutual
  -- Trees with the same code are equal.
  pub inj_t : (t u : Tree) → code_t t ≡ code_t u → t ≡ u
  inj_t null null e = refl
  inj_t (boolean a) (boolean b) e = ap boolean (coded_bool.inj a b (ap second e))
  inj_t (number m) (number n) e = ap number (decimal_code.inj m n (ap second e))
  inj_t (string r) (string s) e = ap string (text_code.inj r s (ap second e))
  inj_t (array ts) (array us) e = ap array (inj_ts ts us (ap second e))
  inj_t (object ps) (object qs) e = ap object (inj_ps ps qs (ap second e))
  inj_t t u e = absurd (apart (tag (code_t t)) (tag (code_t u)) refl (ap tag e))

  -- Lists of elements with the same code are equal.
  inj_ts : (ts us : Items) → code_ts ts ≡ code_ts us → ts ≡ us
  inj_ts no_items no_items e = refl
  inj_ts (item t ts) (item u us) e = λ i. item (inj_t t u (ap first e) i) (inj_ts ts us (ap second e) i)
  inj_ts _ _ e = cc

  -- Lists of members with the same code are equal.
  inj_ps : (ps qs : Members) → code_ps ps ≡ code_ps qs → ps ≡ qs
  inj_ps no_members no_members e = refl
  inj_ps (member k t ps) (member j u qs) e =
      λ i. member (text_code.inj k j (ap first e) i) (inj_t t u (ap first (ap second e)) i)
      (inj_ps ps qs (ap second (ap second e)) i)
  inj_ps _ _ e = cc

-- The code of trees, with the proof that the code is injective.
abbrev pub tree_code : Coded Tree
tree_code = record { code = code_t; inj = inj_t }
