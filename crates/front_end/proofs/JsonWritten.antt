-- JSON that was written piece by piece.
use Rattle.std.proofs.Common.{◌≡◌, ℕ, Bool, true, false, cond, List, [], ◌∷◌, ◌++◌, map, refl, sym, ap, ◌∙◌, append_assoc}
use Rattle.std.specs.Prelude.{codes, filter, not}
use Rattle.json.specs.Print.{print}
use Rattle.json.specs.Token.{Token, begin_object, end_object, key}
use Rattle.serde_json.specs.Data.{Data, string}
use Rattle.serde_json.specs.Written.{compact_text}
use Rattle.serde_json.proofs.Texts.{print-outline}
use Rattle.rank_set.specs.Ranks.{Ranks, is_empty, size}
use Rattle.rank_set.specs.Text.{text_of}
use Rattle.overlay_setup.specs.Names.{name_of}
use Rattle.overlay_setup.specs.NodeSets.{member as is_listed}
use Rattle.overlay_setup.specs.declared.script.Fault.{Fault}
use Rattle.stat_plan.specs.Plans.{Plan, daemons}
use Rattle.overlay_core.specs.TreeReleases.{TreeRelease}
use Rattle.front_end.specs.ReleaseText.{classes_in, kind_text, missing}
use Rattle.front_end.specs.JsonValues.{classes_data, tree_data}
use Rattle.json_text.specs.Values.{count, list_of, object_of, ranks_data}
use Rattle.front_end.specs.JsonReport.{all_missing_data, fate_state, fault_data, has_missing, missing_data, missing_state, release_data, report_data}
use Rattle.json_text.specs.Tokens.{member_tokens, rest_tokens, value_tokens}
use Rattle.front_end.proofs.Written.{some_ranks}

-- an object of three members
three_members : (first second third out a b c d : List Token) → a ≡ out ++ begin_object ∷ [] → b ≡ a ++ first → c ≡ b ++ second → d ≡ c ++ third → d ++ end_object ∷ [] ≡ out ++ begin_object ∷ (first ++ (second ++ (third ++ end_object ∷ [])))
three_members first second third out a b c d pa pb pc pd =
    ap (λ ts. ts ++ end_object ∷ []) (pd ∙ ap (λ ts. ts ++ third) (pc ∙ ap (λ ts. ts ++ second) (pb ∙ ap (λ ts. ts ++ first) pa))) ∙ regroup out (begin_object ∷ []) first second third (end_object ∷ [])
  where
    regroup : (out a b c d e : List Token) → ((((out ++ a) ++ b) ++ c) ++ d) ++ e ≡ out ++ (a ++ (b ++ (c ++ (d ++ e))))
    regroup out a b c d e = simp append_assoc

-- the object of a fault
pub fault_object : (p : Plan) (lost : List ℕ) (fault : Fault) (after : ℕ) (name state : List ℕ) (out a b c d : List Token) → after ≡ fault.after → name ≡ name_of p.names fault.node → state ≡ fate_state (is_listed fault.node lost)
    → a ≡ out ++ begin_object ∷ [] → b ≡ a ++ member_tokens (codes "after") (count after) → c ≡ b ++ member_tokens (codes "node") (string name) → d ≡ c ++ member_tokens (codes "state") (string state)
    → d ++ end_object ∷ [] ≡ out ++ value_tokens (fault_data p lost fault)
fault_object p lost fault after name state out a b c d is_after is_name is_state pa pb pc pd =
    three_members (member_tokens (codes "after") (count after)) (member_tokens (codes "node") (string name)) (member_tokens (codes "state") (string state)) out a b c d pa pb pc pd
    ∙ (λ i. out ++ value_tokens (object_of ((codes "after", count (is_after i)) ∷ (codes "node", string (is_name i)) ∷ (codes "state", string (is_state i)) ∷ [])))

-- the object of a daemon with missing ranks
pub daemon_object : (p : Plan) (covered : Ranks) (lost : List ℕ) (daemon : ℕ) (found : Ranks) (name text state : List ℕ) (out a b c d : List Token) → found ≡ missing p covered daemon → (size found ≡ 0 → ⊥)
    → name ≡ name_of p.names daemon → text ≡ text_of found → state ≡ missing_state (is_listed daemon lost)
    → a ≡ out ++ begin_object ∷ [] → b ≡ a ++ member_tokens (codes "daemon") (string name) → c ≡ b ++ member_tokens (codes "ranks") (string text) → d ≡ c ++ member_tokens (codes "state") (string state)
    → d ++ end_object ∷ [] ≡ out ++ cond (is_empty (missing p covered daemon)) [] (value_tokens (missing_data p covered lost daemon))
daemon_object p covered lost daemon found name text state out a b c d is some is_name is_text is_state pa pb pc pd =
    let parts : Ranks → List Token = λ s. value_tokens (object_of ((codes "daemon", string (name_of p.names daemon)) ∷ (codes "ranks", ranks_data s) ∷ (codes "state", string (missing_state (is_listed daemon lost))) ∷ [])) in
    three_members (member_tokens (codes "daemon") (string name)) (member_tokens (codes "ranks") (string text)) (member_tokens (codes "state") (string state)) out a b c d pa pb pc pd
    ∙ (λ i. out ++ value_tokens (object_of ((codes "daemon", string (is_name i)) ∷ (codes "ranks", string (is_text i)) ∷ (codes "state", string (is_state i)) ∷ [])))
    ∙ ap (λ b. out ++ cond b [] (parts found)) (sym (some_ranks found some)) ∙ ap (λ s. out ++ cond (is_empty s) [] (parts s)) is

-- a daemon, and those after it
pub missing_first : (p : Plan) (covered : Ranks) (lost : List ℕ) (daemon : ℕ) (ds : List ℕ)
    → cond (is_empty (missing p covered daemon)) [] (value_tokens (missing_data p covered lost daemon)) ++ rest_tokens (map (missing_data p covered lost) (filter (has_missing p covered) ds))
    ≡ rest_tokens (map (missing_data p covered lost) (filter (has_missing p covered) (daemon ∷ ds)))
missing_first p covered lost daemon ds = go (is_empty (missing p covered daemon))
  where
    go : (b : Bool) → cond b [] (value_tokens (missing_data p covered lost daemon)) ++ rest_tokens (map (missing_data p covered lost) (filter (has_missing p covered) ds))
        ≡ rest_tokens (map (missing_data p covered lost) (cond (not b) (daemon ∷ filter (has_missing p covered) ds) (filter (has_missing p covered) ds)))
    go true = refl
    go false = refl

-- the members of a release
release_members : (classes covered kind missing nth stream tree wave : Data) (out a b c d e f g h i j k l : List Token) → a ≡ out ++ begin_object ∷ [] → b ≡ a ++ key (codes "classes") ∷ [] → c ≡ b ++ value_tokens classes
    → d ≡ c ++ member_tokens (codes "covered") covered → e ≡ d ++ member_tokens (codes "kind") kind → f ≡ e ++ key (codes "missing") ∷ [] → g ≡ f ++ value_tokens missing
    → h ≡ g ++ member_tokens (codes "number") nth → i ≡ h ++ member_tokens (codes "stream") stream → j ≡ i ++ key (codes "tree") ∷ [] → k ≡ j ++ value_tokens tree → l ≡ k ++ member_tokens (codes "wave") wave
    → l ++ end_object ∷ []
    ≡ out ++ value_tokens (object_of ((codes "classes", classes) ∷ (codes "covered", covered) ∷ (codes "kind", kind) ∷ (codes "missing", missing) ∷ (codes "number", nth) ∷ (codes "stream", stream) ∷ (codes "tree", tree) ∷ (codes "wave", wave) ∷ []))
release_members classes covered kind missing nth stream tree wave out a b c d e f g h i j k l pa pb pc pd pe pf pg ph pi pj pk pl =
    ap (λ ts. ts ++ end_object ∷ []) (pl ∙ ap (λ ts. ts ++ member_tokens (codes "wave") wave) (pk ∙ ap (λ ts. ts ++ value_tokens tree) (pj ∙ ap (λ ts. ts ++ key (codes "tree") ∷ []) (pi
    ∙ ap (λ ts. ts ++ member_tokens (codes "stream") stream) (ph ∙ ap (λ ts. ts ++ member_tokens (codes "number") nth) (pg ∙ ap (λ ts. ts ++ value_tokens missing) (pf ∙ ap (λ ts. ts ++ key (codes "missing") ∷ []) (pe
    ∙ ap (λ ts. ts ++ member_tokens (codes "kind") kind) (pd ∙ ap (λ ts. ts ++ member_tokens (codes "covered") covered) (pc ∙ ap (λ ts. ts ++ value_tokens classes) (pb ∙ ap (λ ts. ts ++ key (codes "classes") ∷ []) pa)))))))))))
    ∙ regroup out (begin_object ∷ []) (key (codes "classes") ∷ []) (value_tokens classes) (member_tokens (codes "covered") covered) (member_tokens (codes "kind") kind) (key (codes "missing") ∷ []) (value_tokens missing)
    (member_tokens (codes "number") nth) (member_tokens (codes "stream") stream) (key (codes "tree") ∷ []) (value_tokens tree) (member_tokens (codes "wave") wave) (end_object ∷ [])
  where
    regroup : (out a b c d e f g h i j k l m : List Token) → ((((((((((((out ++ a) ++ b) ++ c) ++ d) ++ e) ++ f) ++ g) ++ h) ++ i) ++ j) ++ k) ++ l) ++ m
        ≡ out ++ (a ++ (b ++ (c ++ (d ++ (e ++ (f ++ (g ++ (h ++ (i ++ (j ++ (k ++ (l ++ m))))))))))))
    regroup out a b c d e f g h i j k l m = simp append_assoc

-- the object of a release
pub release_object : (p : Plan) (r : TreeRelease) (covered : Ranks) (lost text kind : List ℕ) (number stream wave : ℕ) (classes : Data) (out a b c d e f g h i j k l : List Token)
    → classes ≡ classes_data (classes_in r.tree) → covered ≡ r.tree.coverage → text ≡ text_of covered → kind ≡ kind_text r.kind → lost ≡ r.lost → number ≡ r.number → stream ≡ r.stream → wave ≡ r.wave
    → a ≡ out ++ begin_object ∷ [] → b ≡ a ++ key (codes "classes") ∷ [] → c ≡ b ++ value_tokens classes → d ≡ c ++ member_tokens (codes "covered") (string text) → e ≡ d ++ member_tokens (codes "kind") (string kind)
    → f ≡ e ++ key (codes "missing") ∷ [] → g ≡ f ++ value_tokens (all_missing_data p covered lost (daemons p r.stream)) → h ≡ g ++ member_tokens (codes "number") (count number) → i ≡ h ++ member_tokens (codes "stream") (count stream)
    → j ≡ i ++ key (codes "tree") ∷ [] → k ≡ j ++ value_tokens (tree_data r.tree) → l ≡ k ++ member_tokens (codes "wave") (count wave) → l ++ end_object ∷ [] ≡ out ++ value_tokens (release_data p r)
unfolding release_data
release_object p r covered lost text kind number stream wave classes out a b c d e f g h i j k l is_classes is_covered is_text is_kind is_lost is_number is_stream is_wave pa pb pc pd pe pf pg ph pi pj pk pl =
    release_members classes (string text) (string kind) (all_missing_data p covered lost (daemons p r.stream)) (count number) (count stream) (tree_data r.tree) (count wave) out a b c d e f g h i j k l pa pb pc pd pe pf pg ph pi pj pk pl
    ∙ (λ x. out ++ value_tokens (object_of (
    (codes "classes", is_classes x) ∷ (codes "covered", string ((is_text ∙ ap text_of is_covered) x)) ∷ (codes "kind", string (is_kind x)) ∷ (codes "missing", all_missing_data p (is_covered x) (is_lost x) (daemons p r.stream))
    ∷ (codes "number", count (is_number x)) ∷ (codes "stream", count (is_stream x)) ∷ (codes "tree", tree_data r.tree) ∷ (codes "wave", count (is_wave x)) ∷ [])))

-- the line of the whole report
pub report_line : (p : Plan) (faults : List Fault) (lost : List ℕ) (ordered : List TreeRelease) (line : List ℕ) (out a b c d e f : List Token) → out ≡ [] → a ≡ out ++ begin_object ∷ [] → b ≡ a ++ key (codes "faults") ∷ []
    → c ≡ b ++ value_tokens (list_of (map (fault_data p lost) faults)) → d ≡ c ++ key (codes "releases") ∷ [] → e ≡ d ++ value_tokens (list_of (map (release_data p) ordered)) → f ≡ e ++ end_object ∷ []
    → line ≡ print f ++ 10 ∷ [] → line ≡ compact_text (report_data p faults lost ordered) ++ 10 ∷ []
unfolding report_data
report_line p faults lost ordered line out a b c d e f none pa pb pc pd pe pf is =
    let first = value_tokens (list_of (map (fault_data p lost) faults)) in
    let second = value_tokens (list_of (map (release_data p) ordered)) in
    let all : f ≡ value_tokens (report_data p faults lost ordered)
    = pf ∙ ap (λ ts. ts ++ end_object ∷ []) (pe ∙ ap (λ ts. ts ++ second) (pd ∙ ap (λ ts. ts ++ key (codes "releases") ∷ []) (pc ∙ ap (λ ts. ts ++ first) (pb ∙ ap (λ ts. ts ++ key (codes "faults") ∷ []) (pa ∙ ap (λ ts. ts ++ begin_object ∷ []) none)))))
    ∙ regroup (begin_object ∷ key (codes "faults") ∷ []) first (key (codes "releases") ∷ []) second (end_object ∷ []) in
    is ∙ ap (λ ts. print ts ++ 10 ∷ []) all ∙ ap (λ ys. ys ++ 10 ∷ []) (print-outline (report_data p faults lost ordered))
  where
    regroup : (a b c d e : List Token) → (((a ++ b) ++ c) ++ d) ++ e ≡ a ++ (b ++ (c ++ (d ++ e)))
    regroup a b c d e = simp append_assoc
