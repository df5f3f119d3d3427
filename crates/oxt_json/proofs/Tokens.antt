-- The tokens of a JSON value tell which it is.
use Rattle.std.proofs.Common.{◌≡◌, ◌∙◌, refl, sym, ap, List, [], ◌∷◌, ◌++◌, append_assoc, append-nil}
use Rattle.json.specs.Json.{Json, null, boolean, number, string, array, object, Items, no_items, item, Members, no_members, member}
use Rattle.json.specs.Token.{Token}
use Rattle.json.specs.Tree.{json_tokens, items_tokens, members_tokens}

no_end : (j : Json) (x y : List Token) → Token.end_array ∷ x ≡ json_tokens j ++ y → ⊥
no_end null x y e = cc
no_end (boolean b) x y e = cc
no_end (number s) x y e = cc
no_end (string s) x y e = cc
no_end (array js) x y e = cc
no_end (object ms) x y e = cc

mutual
  same_json : (i j : Json) (x y : List Token) → json_tokens i ++ x ≡ json_tokens j ++ y → (i ≡ j) × (x ≡ y)
  same_json null null x y e = (refl, cc)
  same_json null (boolean qb) x y e = absurd (cc)
  same_json null (number qs) x y e = absurd (cc)
  same_json null (string qs) x y e = absurd (cc)
  same_json null (array qjs) x y e = absurd (cc)
  same_json null (object qms) x y e = absurd (cc)
  same_json (boolean pb) null x y e = absurd (cc)
  same_json (boolean b) (boolean c) x y e = let same : b ≡ c = cc in (ap boolean same, cc)
  same_json (boolean pb) (number qs) x y e = absurd (cc)
  same_json (boolean pb) (string qs) x y e = absurd (cc)
  same_json (boolean pb) (array qjs) x y e = absurd (cc)
  same_json (boolean pb) (object qms) x y e = absurd (cc)
  same_json (number ps) null x y e = absurd (cc)
  same_json (number ps) (boolean qb) x y e = absurd (cc)
  same_json (number s) (number t) x y e = let same : s ≡ t = cc in (ap number same, cc)
  same_json (number ps) (string qs) x y e = absurd (cc)
  same_json (number ps) (array qjs) x y e = absurd (cc)
  same_json (number ps) (object qms) x y e = absurd (cc)
  same_json (string ps) null x y e = absurd (cc)
  same_json (string ps) (boolean qb) x y e = absurd (cc)
  same_json (string ps) (number qs) x y e = absurd (cc)
  same_json (string s) (string t) x y e = let same : s ≡ t = cc in (ap string same, cc)
  same_json (string ps) (array qjs) x y e = absurd (cc)
  same_json (string ps) (object qms) x y e = absurd (cc)
  same_json (array pjs) null x y e = absurd (cc)
  same_json (array pjs) (boolean qb) x y e = absurd (cc)
  same_json (array pjs) (number qs) x y e = absurd (cc)
  same_json (array pjs) (string qs) x y e = absurd (cc)
  same_json (array is) (array js) x y e =
      let rest : items_tokens is ++ x ≡ items_tokens js ++ y = cc in
      let same = same_items is js x y rest in
      (ap array same.0, same.1)
  same_json (array pjs) (object qms) x y e = absurd (cc)
  same_json (object pms) null x y e = absurd (cc)
  same_json (object pms) (boolean qb) x y e = absurd (cc)
  same_json (object pms) (number qs) x y e = absurd (cc)
  same_json (object pms) (string qs) x y e = absurd (cc)
  same_json (object pms) (array qjs) x y e = absurd (cc)
  same_json (object ls) (object ms) x y e =
      let rest : members_tokens ls ++ x ≡ members_tokens ms ++ y = cc in
      let same = same_members ls ms x y rest in
      (ap object same.0, same.1)

  same_items : (is js : Items) (x y : List Token) → items_tokens is ++ x ≡ items_tokens js ++ y → (is ≡ js) × (x ≡ y)
  same_items no_items no_items x y e = (refl, cc)
  same_items no_items (item j js) x y e = absurd (no_end j x (items_tokens js ++ y) (e ∙ append_assoc (json_tokens j) (items_tokens js) y))
  same_items (item i is) no_items x y e = absurd (no_end i y (items_tokens is ++ x) (sym e ∙ append_assoc (json_tokens i) (items_tokens is) x))
  same_items (item i is) (item j js) x y e =
      let one = same_json i j (items_tokens is ++ x) (items_tokens js ++ y) (sym (append_assoc (json_tokens i) (items_tokens is) x) ∙ (e ∙ append_assoc (json_tokens j) (items_tokens js) y)) in
      let rest = same_items is js x y one.1 in
      (ap (λ k. item k is) one.0 ∙ ap (item j) rest.0, rest.1)

  same_members : (ls ms : Members) (x y : List Token) → members_tokens ls ++ x ≡ members_tokens ms ++ y → (ls ≡ ms) × (x ≡ y)
  same_members no_members no_members x y e = (refl, cc)
  same_members no_members (member k j ms) x y e = absurd (cc)
  same_members (member k i ls) no_members x y e = absurd (cc)
  same_members (member k i ls) (member l j ms) x y e =
      let key : k ≡ l = cc in
      let values : (json_tokens i ++ members_tokens ls) ++ x ≡ (json_tokens j ++ members_tokens ms) ++ y = cc in
      let one = same_json i j (members_tokens ls ++ x) (members_tokens ms ++ y) (sym (append_assoc (json_tokens i) (members_tokens ls) x) ∙ (values ∙ append_assoc (json_tokens j) (members_tokens ms) y)) in
      let rest = same_members ls ms x y one.1 in
      (ap (λ k. member k i ls) key ∙ (ap (λ v. member l v ls) one.0 ∙ ap (member l j) rest.0), rest.1)

pub one_json : (i j : Json) → json_tokens i ≡ json_tokens j → i ≡ j
one_json i j e = (same_json i j [] [] (append-nil (json_tokens i) ∙ (e ∙ sym (append-nil (json_tokens j))))).0
