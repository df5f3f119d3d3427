-- A walk over the words, as `clap` takes it, gives what the words give.
use Rattle.std.proofs.Common.{◌≡◌, ◌∙◌, ◌++◌, Bool, true, false, refl, sym, ap, ap₂, subst, cond, List, [], ◌∷◌, Option, Some, None, option_map, codes}
use Rattle.std.proofs.lemmas.Bool.{true≢false}
use Rattle.std.specs.Prelude.{option_and_then, ⊤}
use Rattle.std.specs.List.{fold}
use Rattle.std.specs.Str.{IsUtf8}
use Rattle.clap.specs.Lexer.{long_of, short_of}
use Rattle.clap.specs.Walk.{Row, Waiting, Walk, idle, option, settled_rows, used, walked}
use Rattle.clap.specs.Kinds.{Kinds, or_else}
use Rattle.clap.specs.Faults.{long_fault, settle_fault, turn_fault, use_fault, walk_fault}
use Rattle.oxt_flags.specs.Flags.{FlagData, Given, Next, Point, Text, after, alone, ended, flag, flag_read, give, given_from, is_end, is_given, is_value, long_read, nothing, value_of, with_value}
use Rattle.oxt_flags.specs.Matching.{full_rule}
use Rattle.oxt_flags.proofs.Words.{plain_is_value, short_starts, value_is_plain}
use Rattle.oxt_flags.proofs.Rules.{by_id, named, named_again, rules_for}
use Rattle.oxt_flags.proofs.Uses.{alone_again, alone_fine, rows_of_given, used_alone, used_value, value_again, value_fine}
use Rattle.oxt_flags.proofs.Turns.{back, end_turn, end_walked, front, held, long_turn, long_turned, long_walk, long_walked, shape_for, short_turn, stand, stray_turn, trailing_turn, value_turn, value_walked}

-- what is pending is no fault, and with it the rows are those of what was given
pub record Rests (fs : List FlagData) (gs : List Given) (p : Option (Text × List Text)) (rows : List Row) : Type 0 where
  pub fine : settle_fault (rules_for fs) false (held p rows) ≡ []
  pub same : settled_rows (rules_for fs) p rows ≡ rows_of_given gs

-- the walk stands where these were given and this comes next
abbrev pub Stands : List FlagData → Next → List Given → Walk → Type 0
Stands fs flag gs w = (p : Option (Text × List Text)) × (rows : List Row) × (w ≡ stand idle false p rows) × Rests fs gs p rows
Stands fs (value_of n) gs w = (named fs n ≡ Some (with_value n)) × (w ≡ stand (option n) false (Some (n, [])) (rows_of_given gs))
Stands fs nothing gs w = (wt : Waiting) × (p : Option (Text × List Text)) × (rows : List Row) × (w ≡ stand wt true p rows) × Rests fs gs p rows

abbrev Unsettled : List FlagData → Option (Text × List Text) → List Row → Type 0
Unsettled fs p rows = settle_fault (rules_for fs) false (held p rows) ≡ [] → ⊥

-- what is pending is a fault, and no word can mend it
pub data Doomed (fs : List FlagData) (w : Walk) : Type 0 where
  waits : (p : Option (Text × List Text)) (rows : List Row) → w ≡ stand idle false p rows → Unsettled fs p rows → Doomed fs w
  trails : (wt : Waiting) (p : Option (Text × List Text)) (rows : List Row) → w ≡ stand wt true p rows → Unsettled fs p rows → Doomed fs w

-- one more word is taken alike
abbrev Goes : List FlagData → Option Point → Kinds → Walk → Type 0
Goes fs (Some pt) turn w = (turn ≡ []) × Stands fs pt.next pt.given w
Goes fs None turn w = turn ≡ [] → Doomed fs w

-- ---- a flag

value_given_now : (fs : List FlagData) (gs : List Given) (p : Option (Text × List Text)) (rows : List Row) (word name v : Text) (b : Bool) → is_given name gs ≡ b
    → Rests fs gs p rows
    → Goes fs (cond b None (Some (record { given = gs ++ (name, v) ∷ []; next = flag })))
    (long_turn fs idle p rows word (Some (with_value name)) (Some v)) (long_walk fs idle p rows word (Some (with_value name)) (Some v))
value_given_now fs gs p rows word name v false new rests = (
  ap₂ (λ (s : Kinds) (rs : List Row). or_else (or_else s (use_fault false (full_rule (with_value name)) (v ∷ []) rs)) []) rests.fine rests.same
      ∙ ap (λ (u : Kinds). or_else (or_else [] u) []) (value_fine name v gs new),
  (
    None,
    used (full_rule (with_value name)) (v ∷ []) (settled_rows (rules_for fs) p rows),
    refl,
    record { fine = refl; same = ap (used (full_rule (with_value name)) (v ∷ [])) rests.same ∙ used_value name v gs new },
  ),
)
value_given_now fs gs p rows word name v true old rests =
    λ e.
    let again : use_fault false (full_rule (with_value name)) (v ∷ []) (settled_rows (rules_for fs) p rows) ≡ [] = back _ _ (front _ _ e) in
    absurd (value_again name v gs old (sym (ap (use_fault false (full_rule (with_value name)) (v ∷ [])) rests.same) ∙ again))

alone_given_now : (fs : List FlagData) (gs : List Given) (p : Option (Text × List Text)) (rows : List Row) (word name : Text) (b : Bool) → is_given name gs ≡ b
    → Rests fs gs p rows
    → Goes fs (cond b None (Some (record { given = gs ++ (name, codes "true") ∷ []; next = flag })))
    (long_turn fs idle p rows word (Some (alone name)) None) (long_walk fs idle p rows word (Some (alone name)) None)
alone_given_now fs gs p rows word name false new rests = (
  ap₂ (λ (s : Kinds) (rs : List Row). or_else (or_else s (use_fault false (full_rule (alone name)) [] rs)) []) rests.fine rests.same
      ∙ ap (λ (u : Kinds). or_else (or_else [] u) []) (alone_fine name gs new),
  (
    None,
    used (full_rule (alone name)) [] (settled_rows (rules_for fs) p rows),
    refl,
    record { fine = refl; same = ap (used (full_rule (alone name)) []) rests.same ∙ used_alone name gs new },
  ),
)
alone_given_now fs gs p rows word name true old rests =
    λ e.
    let again : use_fault false (full_rule (alone name)) [] (settled_rows (rules_for fs) p rows) ≡ [] = back _ _ (front _ _ e) in
    absurd (alone_again name gs old (sym (ap (use_fault false (full_rule (alone name)) []) rests.same) ∙ again))

flag_goes : (fs : List FlagData) (gs : List Given) (p : Option (Text × List Text)) (rows : List Row) (word name : Text) (b : Bool) (v : Option Text)
    → named fs name ≡ Some (record { name = name; takes_value = b }) → Rests fs gs p rows
    → Goes fs (flag_read (Some (record { name = name; takes_value = b })) v gs)
    (long_turn fs idle p rows word (Some (record { name = name; takes_value = b })) v) (long_walk fs idle p rows word (Some (record { name = name; takes_value = b })) v)
flag_goes fs gs p rows word name true (Some v) found rests = value_given_now fs gs p rows word name v (is_given name gs) refl rests
flag_goes fs gs p rows word name true None found rests = (
  ap (λ (s : Kinds). or_else s []) rests.fine,
  (found, ap (λ (rs : List Row). stand (option name) false (Some (name, [])) rs) rests.same),
)
flag_goes fs gs p rows word name false (Some v) found rests = λ e. absurd (cc)
flag_goes fs gs p rows word name false None found rests = alone_given_now fs gs p rows word name (is_given name gs) refl rests

long_goes : (fs : List FlagData) (gs : List Given) (p : Option (Text × List Text)) (rows : List Row) (word : Text) (o : Option FlagData) (v : Option Text)
    → ((f : FlagData) → o ≡ Some f → named fs f.name ≡ Some f) → Rests fs gs p rows
    → Goes fs (flag_read o v gs) (long_turn fs idle p rows word o v) (long_walk fs idle p rows word o v)
long_goes fs gs p rows word None v found rests = λ e. absurd (cc)
long_goes fs gs p rows word (Some f) v found rests = flag_goes fs gs p rows word f.name f.takes_value v (found f refl) rests

-- ---- a fault that is pending comes out at a flag

flag_doomed : (fs : List FlagData) (p : Option (Text × List Text)) (rows : List Row) (name : Text) (b : Bool) (v : Option Text) → Unsettled fs p rows
    → long_fault (rules_for fs) false (Some (full_rule (record { name = name; takes_value = b }))) v (held p rows) ≡ [] → ⊥
flag_doomed fs p rows name true (Some v) bad e = bad (front _ _ e)
flag_doomed fs p rows name true None bad e = bad e
flag_doomed fs p rows name false (Some v) bad e = cc
flag_doomed fs p rows name false None bad e = bad (front _ _ e)

long_doomed : (fs : List FlagData) (p : Option (Text × List Text)) (rows : List Row) (o : Option FlagData) (v : Option Text) → Unsettled fs p rows
    → long_fault (rules_for fs) false (option_map full_rule o) v (held p rows) ≡ [] → ⊥
long_doomed fs p rows None v bad e = cc
long_doomed fs p rows (Some f) v bad e = flag_doomed fs p rows f.name f.takes_value v bad e

-- ---- one word

module _ (fs : List FlagData) (wt : Waiting) (p : Option (Text × List Text)) (rows : List Row) (word : Text) (text : IsUtf8 word) where
  -- `--` or a flag, or no fault comes out
  abbrev pub IsRefusedOr : Type 0 → Type 0
  IsRefusedOr A = turn_fault (shape_for fs) [] (stand wt false p rows) word ≡ [] → A

  -- a word that is no value lets no pending fault through, but for `--`
  pub unvalued_doomed : Unsettled fs p rows → (is_end word ≡ false → long_of word ≡ None → short_of word ≡ None → IsRefusedOr (Doomed fs (walked (rules_for fs) [] (stand wt false p rows) word)))
      → IsRefusedOr (Doomed fs (walked (rules_for fs) [] (stand wt false p rows) word))
  unvalued_doomed bad otherwise = at_end (is_end word) refl
    where
      short : (o : Option Text) → is_end word ≡ false → long_of word ≡ None → short_of word ≡ o → IsRefusedOr (Doomed fs (walked (rules_for fs) [] (stand wt false p rows) word))
      short None no_end no_long no_short = otherwise no_end no_long no_short
      short (Some flags) no_end no_long is =
          let first = short_starts word flags text is in
          λ e. absurd (short_turn fs wt p rows word flags first.0 no_end no_long is first.1 e)

      long : (o : Option (Text × Option Text)) → is_end word ≡ false → long_of word ≡ o → IsRefusedOr (Doomed fs (walked (rules_for fs) [] (stand wt false p rows) word))
      long None no_end no_long = short (short_of word) no_end no_long refl
      long (Some q) no_end is = λ e. absurd (long_doomed fs p rows (named fs q.0) q.1 bad (front _ _ (sym (long_turned fs wt p rows word q no_end is) ∙ e)))

      at_end : (b : Bool) → is_end word ≡ b → IsRefusedOr (Doomed fs (walked (rules_for fs) [] (stand wt false p rows) word))
      at_end true is = λ e. trails wt p rows (end_walked fs wt p rows word is) bad
      at_end false no_end = long (long_of word) no_end refl

-- a pending fault stays
doomed_goes : (fs : List FlagData) (w : Walk) (word : Text) → IsUtf8 word → Doomed fs w → turn_fault (shape_for fs) [] w word ≡ [] → Doomed fs (walked (rules_for fs) [] w word)
doomed_goes fs w word text (waits p rows is bad) =
    subst (λ (x : Walk). turn_fault (shape_for fs) [] x word ≡ [] → Doomed fs (walked (rules_for fs) [] x word)) (sym is)
    (unvalued_doomed fs idle p rows word text bad (λ no_end no_long no_short e. absurd (stray_turn fs p rows word no_end no_long no_short e)))
doomed_goes fs w word text (trails wt p rows is bad) =
    subst (λ (x : Walk). turn_fault (shape_for fs) [] x word ≡ [] → Doomed fs (walked (rules_for fs) [] x word)) (sym is)
    (λ e. absurd (trailing_turn fs wt p rows word e))

-- the word that comes where a flag may
flag_word_goes : (fs : List FlagData) (gs : List Given) (p : Option (Text × List Text)) (rows : List Row) (word : Text) → IsUtf8 word → Rests fs gs p rows
    → Goes fs (after fs flag gs word) (turn_fault (shape_for fs) [] (stand idle false p rows) word) (walked (rules_for fs) [] (stand idle false p rows) word)
flag_word_goes fs gs p rows word text rests = at_end (is_end word) refl
  where
    short : (o : Option Text) → is_end word ≡ false → long_of word ≡ None → short_of word ≡ o → turn_fault (shape_for fs) [] (stand idle false p rows) word ≡ [] → ⊥
    short None no_end no_long no_short = stray_turn fs p rows word no_end no_long no_short
    short (Some flags) no_end no_long is =
        let first = short_starts word flags text is in
        short_turn fs idle p rows word flags first.0 no_end no_long is first.1

    long : (o : Option (Text × Option Text)) → is_end word ≡ false → long_of word ≡ o
        → Goes fs (long_read fs o gs) (turn_fault (shape_for fs) [] (stand idle false p rows) word) (walked (rules_for fs) [] (stand idle false p rows) word)
    long None no_end is = λ e. absurd (short (short_of word) no_end is refl e)
    long (Some q) no_end is =
        subst (λ (t : Kinds). Goes fs (flag_read (named fs q.0) q.1 gs) t (walked (rules_for fs) [] (stand idle false p rows) word)) (sym (long_turned fs idle p rows word q no_end is))
        (subst (λ (w : Walk). Goes fs (flag_read (named fs q.0) q.1 gs) (long_turn fs idle p rows word (named fs q.0) q.1) w) (sym (long_walked fs idle p rows word q no_end is))
        (long_goes fs gs p rows word (named fs q.0) q.1 (λ f found. named_again fs q.0 f found) rests))

    at_end : (b : Bool) → is_end word ≡ b
        → Goes fs (cond b (Some (record { given = gs; next = nothing })) (long_read fs (long_of word) gs)) (turn_fault (shape_for fs) [] (stand idle false p rows) word)
        (walked (rules_for fs) [] (stand idle false p rows) word)
    at_end true is = (end_turn fs idle p rows word is, (idle, p, rows, end_walked fs idle p rows word is, rests))
    at_end false no_end = long (long_of word) no_end refl

-- the word that comes where a value is awaited
module _ (fs : List FlagData) (gs : List Given) (n word : Text) (text : IsUtf8 word) (found : named fs n ≡ Some (with_value n)) where
  abbrev awaits : Walk
  awaits = stand (option n) false (Some (n, [])) (rows_of_given gs)

  missing : Unsettled fs (Some (n, [])) (rows_of_given gs)
  missing e = let bad = rw (by_id fs n, found) at e in cc

  settles : settle_fault (rules_for fs) false (held (Some (n, word ∷ [])) (rows_of_given gs)) ≡ use_fault false (full_rule (with_value n)) (word ∷ []) (rows_of_given gs)
  settles = rw (by_id fs n, found) refl

  settles_to : settled_rows (rules_for fs) (Some (n, word ∷ [])) (rows_of_given gs) ≡ used (full_rule (with_value n)) (word ∷ []) (rows_of_given gs)
  settles_to = rw (by_id fs n, found) refl

  abbrev GoesTo : Option Point → Type 0
  GoesTo o = Goes fs o (turn_fault (shape_for fs) [] awaits word) (walked (rules_for fs) [] awaits word)

  value_goes : (b : Bool) → is_given n gs ≡ b → is_value word ≡ true → GoesTo (cond b None (Some (record { given = gs ++ (n, word) ∷ []; next = flag })))
  value_goes false new is =
      let plain = value_is_plain word is in (
        value_turn fs n (Some (n, [])) (rows_of_given gs) word plain.not_end plain.not_long plain.not_short,
        (
          Some (n, word ∷ []),
          rows_of_given gs,
          value_walked fs n (rows_of_given gs) word found plain.not_end plain.not_long plain.not_short,
          record { fine = settles ∙ value_fine n word gs new; same = settles_to ∙ used_value n word gs new },
        ),
      )
  value_goes true old is =
      let plain = value_is_plain word is in
      λ e.
      waits (Some (n, word ∷ [])) (rows_of_given gs) (value_walked fs n (rows_of_given gs) word found plain.not_end plain.not_long plain.not_short)
      (λ s. value_again n word gs old (sym settles ∙ s))

  pub value_word_goes : GoesTo (after fs (value_of n) gs word)
  value_word_goes = at_value (is_value word) refl
    where
      at_value : (b : Bool) → is_value word ≡ b → GoesTo (cond b (give n word gs) None)
      at_value true is = value_goes (is_given n gs) refl is
      at_value false is =
          (unvalued_doomed fs (option n) (Some (n, [])) (rows_of_given gs) word text missing
          (λ no_end no_long no_short e. absurd (true≢false (sym (plain_is_value word no_end no_long no_short) ∙ is))))

goes : (fs : List FlagData) (next : Next) (gs : List Given) (w : Walk) (word : Text) → IsUtf8 word → Stands fs next gs w
    → Goes fs (after fs next gs word) (turn_fault (shape_for fs) [] w word) (walked (rules_for fs) [] w word)
goes fs flag gs w word text s =
    subst (λ (x : Walk). Goes fs (after fs flag gs word) (turn_fault (shape_for fs) [] x word) (walked (rules_for fs) [] x word)) (sym s.2) (flag_word_goes fs gs s.0 s.1 word text s.3)
goes fs (value_of n) gs w word text s =
    subst (λ (x : Walk). Goes fs (after fs (value_of n) gs word) (turn_fault (shape_for fs) [] x word) (walked (rules_for fs) [] x word)) (sym s.1) (value_word_goes fs gs n word text s.0)
goes fs nothing gs w word text s =
    subst (λ (x : Walk). turn_fault (shape_for fs) [] x word ≡ [] → Doomed fs (walked (rules_for fs) [] x word)) (sym s.3) (λ e. absurd (trailing_turn fs s.0 s.1 s.2 word e))

-- ---- all words

-- each word is text
abbrev pub AreTexts : List Text → Type 0
AreTexts [] = ⊤
AreTexts (word ∷ words) = IsUtf8 word × AreTexts words

abbrev end_of : List FlagData → Walk → List Text → Walk
end_of fs w words = fold (walked (rules_for fs) []) w words

-- the faults of the words that follow
abbrev pub rest_fault : List FlagData → Walk → List Text → Kinds
rest_fault fs w words = or_else (walk_fault (shape_for fs) [] w words) (settle_fault (rules_for fs) false (end_of fs w words).held)

-- the rows once these words followed
abbrev pub rest_rows : List FlagData → Walk → List Text → List Row
rest_rows fs w words = settled_rows (rules_for fs) (end_of fs w words).held.pending (end_of fs w words).held.rows

abbrev pub Agrees : List FlagData → Option (List Given) → Walk → List Text → Type 0
Agrees fs (Some gs) w words = (rest_fault fs w words ≡ []) × (rest_rows fs w words ≡ rows_of_given gs)
Agrees fs None w words = rest_fault fs w words ≡ [] → ⊥

doomed_end : (fs : List FlagData) (w : Walk) → Doomed fs w → settle_fault (rules_for fs) false w.held ≡ [] → ⊥
doomed_end fs w (waits p rows is bad) e = bad (subst (λ (x : Walk). settle_fault (rules_for fs) false x.held ≡ []) is e)
doomed_end fs w (trails wt p rows is bad) e = bad (subst (λ (x : Walk). settle_fault (rules_for fs) false x.held ≡ []) is e)

-- no fault of the words that follow is no fault of the first and of the others
rest_first : (fs : List FlagData) (w : Walk) (word : Text) (words : List Text) → rest_fault fs w (word ∷ words) ≡ [] → turn_fault (shape_for fs) [] w word ≡ []
unfolding walk_fault
rest_first fs w word words e =
    front (turn_fault (shape_for fs) [] w word) (walk_fault (shape_for fs) [] (walked (rules_for fs) [] w word) words)
    (front (walk_fault (shape_for fs) [] w (word ∷ words)) (settle_fault (rules_for fs) false (end_of fs w (word ∷ words)).held) e)

rest_others : (fs : List FlagData) (w : Walk) (word : Text) (words : List Text) → rest_fault fs w (word ∷ words) ≡ [] → rest_fault fs (walked (rules_for fs) [] w word) words ≡ []
unfolding walk_fault
rest_others fs w word words e =
    let settle : Kinds = settle_fault (rules_for fs) false (end_of fs w (word ∷ words)).held in
    let later : Kinds = walk_fault (shape_for fs) [] (walked (rules_for fs) [] w word) words in
    let walk_fine : later ≡ [] = back (turn_fault (shape_for fs) [] w word) later (front (walk_fault (shape_for fs) [] w (word ∷ words)) settle e) in
    let settle_fine : settle ≡ [] = back (walk_fault (shape_for fs) [] w (word ∷ words)) settle e in
    ap (λ (t : Kinds). or_else t settle) walk_fine ∙ settle_fine

doomed_all : (fs : List FlagData) (words : List Text) → AreTexts words → (w : Walk) → Doomed fs w → rest_fault fs w words ≡ [] → ⊥
unfolding walk_fault
doomed_all fs [] texts w doomed e = doomed_end fs w doomed e
doomed_all fs (word ∷ words) texts w doomed e =
    doomed_all fs words texts.1 (walked (rules_for fs) [] w word) (doomed_goes fs w word texts.0 doomed (rest_first fs w word words e)) (rest_others fs w word words e)

agrees_end : (fs : List FlagData) (next : Next) (gs : List Given) (w : Walk) → Stands fs next gs w → Agrees fs (ended next gs) w []
unfolding walk_fault
agrees_end fs flag gs w s = subst (λ (x : Walk). Agrees fs (Some gs) x []) (sym s.2) (s.3.fine, s.3.same)
agrees_end fs (value_of n) gs w s =
    subst (λ (x : Walk). settle_fault (rules_for fs) false x.held ≡ [] → ⊥) (sym s.1) (λ e. let bad = rw (by_id fs n, s.0) at e in cc)
agrees_end fs nothing gs w s = subst (λ (x : Walk). Agrees fs (Some gs) x []) (sym s.3) (s.4.fine, s.4.same)

agrees_more : (fs : List FlagData) (o : Option (List Given)) (w : Walk) (word : Text) (words : List Text) → turn_fault (shape_for fs) [] w word ≡ []
    → Agrees fs o (walked (rules_for fs) [] w word) words → Agrees fs o w (word ∷ words)
unfolding walk_fault
agrees_more fs (Some gs) w word words turn a = (
  ap (λ (t : Kinds). or_else (or_else t (walk_fault (shape_for fs) [] (walked (rules_for fs) [] w word) words))
      (settle_fault (rules_for fs) false (end_of fs (walked (rules_for fs) [] w word) words).held)) turn ∙ a.0,
  a.1,
)
agrees_more fs None w word words turn a = λ e. a (rest_others fs w word words e)

pub agrees : (fs : List FlagData) (words : List Text) → AreTexts words → (next : Next) (gs : List Given) (w : Walk) → Stands fs next gs w
    → Agrees fs (given_from fs words next gs) w words
unfolding given_from walk_fault
agrees fs [] texts next gs w s = agrees_end fs next gs w s
agrees fs (word ∷ words) texts next gs w s =
    go (after fs next gs word) (goes fs next gs w word texts.0 s) (λ pt stands. agrees fs words texts.1 pt.next pt.given (walked (rules_for fs) [] w word) stands)
  where
    go : (o : Option Point) → Goes fs o (turn_fault (shape_for fs) [] w word) (walked (rules_for fs) [] w word)
        → ((pt : Point) → Stands fs pt.next pt.given (walked (rules_for fs) [] w word) → Agrees fs (given_from fs words pt.next pt.given) (walked (rules_for fs) [] w word) words)
        → Agrees fs (option_and_then (λ (pt : Point). given_from fs words pt.next pt.given) o) w (word ∷ words)
    go None refused rest = λ e. doomed_all fs words texts.1 (walked (rules_for fs) [] w word) (refused (rest_first fs w word words e)) (rest_others fs w word words e)
    go (Some pt) taken rest = agrees_more fs (given_from fs words pt.next pt.given) w word words taken.0 (rest pt taken.1)
