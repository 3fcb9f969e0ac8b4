-- Laws of the options whose value a command has.
use Prim.Native.Nat.{ℕ, zero, suc}
use mathlib.Core.Path.{◌≡◌, refl, ◌∙◌, sym, ap}
use mathlib.Core.Bool.{Bool, true, false, ◌||◌}
use mathlib.Core.List.{List, [], ◌∷◌, ◌++◌, map}
use lib.ListN.{take}
use Rattle.std.specs.Prelude.{Option, None, Some, is_some, not, codes}
use Rattle.std.specs.Option.{option_map}
use Rattle.std.specs.Str.{bytes_eq}
use Rattle.std.proofs.lemmas.Slice.Eq.{bytes_eq-Decides}
use Rattle.text.specs.Decimal.{number_in}
use Rattle.lists.specs.Tests.{and}
use Rattle.lists.proofs.Tests.{and-true}
use Rattle.shades.specs.declared.Scale.TheVariants.{SquareRoot, Linear}
use Rattle.arguments.specs.declared.command.Command.{Command}
use Rattle.arguments.specs.declared.command.Command.TheVariants.{Bake, Measure, Read, Show, Map, Help, Version}
use Rattle.arguments.specs.declared.command.Shown.TheVariants.{Table, Worst, Both, Total, Csv}
use Rattle.arguments.specs.declared.names.Name.{Name}
use Rattle.arguments.specs.Line.{option_form, numbers_behind, options_from, options_of, is_among, each_once, behind_from, numbers_at}
use Rattle.arguments.specs.Options.{own_options}
use Rattle.arguments.specs.Commands.{CommandSaid, options_said, with_some}

-- where a word is another than a second, the second is another than the first
other_word : (v w : List ℕ) → bytes_eq w v ≡ false → bytes_eq v w ≡ false
other_word v w e = go (bytes_eq v w) refl
  where
    go : (t : Bool) → bytes_eq v w ≡ t → t ≡ false
    go true h = let same = (bytes_eq-Decides w v).1 (sym ((bytes_eq-Decides v w).0 h)) in cc
    go false h = refl

-- an option is among the options of a line where there are words behind its first standing
stands_from : (option : List ℕ) (n : ℕ) (ws : List (List ℕ)) → option_form option ≡ true →
    is_among option (options_from n ws) ≡ is_some (behind_from option n ws)
stands_from option n [] form = refl
stands_from option (suc n) (w ∷ ws) form = stands_from option n ws form
stands_from option zero (w ∷ ws) form = go (λ n. stands_from option n ws form) (bytes_eq w option) refl (option_form w) refl
  where
    go : ((n : ℕ) → is_among option (options_from n ws) ≡ is_some (behind_from option n ws)) →
        (t : Bool) → bytes_eq w option ≡ t → (f : Bool) → option_form w ≡ f →
        is_among option (options_from zero (w ∷ ws)) ≡ is_some (behind_from option zero (w ∷ ws))
    go later true e true f = rw (e, f, (bytes_eq-Decides option w).1 (sym ((bytes_eq-Decides w option).0 e))) refl
    go later true e false f = let same = ap option_form ((bytes_eq-Decides w option).0 e) in cc
    go later false e true f = rw (e, f, other_word option w e) (later (numbers_behind w))
    go later false e false f = rw (e, f) (later zero)

-- an option that has no numbers among the words does not stand there
not_there : (option : List ℕ) (ws : List (List ℕ)) → option_form option ≡ true → numbers_at option ws ≡ None →
    is_among option (options_of ws) ≡ false
unfolding options_of numbers_at
not_there option ws form none = stands_from option 0 ws form ∙ go (behind_from option 0 ws) none
  where
    go : (behind : Option (List (List ℕ))) →
        option_map (λ b. map number_in (take (numbers_behind option) b)) behind ≡ None → is_some behind ≡ false
    go None h = refl
    go (Some b) h = cc

-- whether a word is among others does not change where another word is left out
among_out : (w option : List ℕ) (front back : List (List ℕ)) → bytes_eq w option ≡ false →
    is_among w (front ++ (option ∷ back)) ≡ is_among w (front ++ back)
among_out w option [] back e = rw e refl
among_out w option (f ∷ front) back e = ap (λ t. bytes_eq w f || t) (among_out w option front back e)

-- where not one of two tests holds, the first fails and the second fails
both_fail : (a b : Bool) → (a || b) ≡ false → (a ≡ false) × (b ≡ false)
both_fail false b h = (refl, h)
both_fail true b h = cc

-- options that are each one of a list and stand once are so too where one is left out of the list that is not among them
left_out : (option : List ℕ) (front back options : List (List ℕ)) → each_once (front ++ (option ∷ back)) options ≡ true →
    is_among option options ≡ false → each_once (front ++ back) options ≡ true
left_out option front back [] once none = refl
left_out option front back (w ∷ ws) once none =
    let later = each_once (front ++ (option ∷ back)) ws in
    let own = and-true (is_among w (front ++ (option ∷ back))) (and (not (is_among w ws)) later) once in
    let rest = and-true (not (is_among w ws)) later own.1 in
    let other = both_fail (bytes_eq option w) (is_among option ws) none in
    rw (← among_out w option front back (other_word w option other.0), own.0, rest.0) (left_out option front back ws rest.1 other.1)

-- an option that has no numbers among the words is left out of the list
not_given : (option : List ℕ) (front back words : List (List ℕ)) → option_form option ≡ true → numbers_at option words ≡ None →
    each_once (front ++ (option ∷ back)) (options_of words) ≡ true → each_once (front ++ back) (options_of words) ≡ true
not_given option front back words form none once = left_out option front back (options_of words) once (not_there option words form none)

-- an option is left out of the list where no value of it is given
where_given : {A : Type 0} → (option : List ℕ) (front back words : List (List ℕ)) (a : Option A) (numbers : A → List (Option ℕ)) →
    option_form option ≡ true → numbers_at option words ≡ option_map numbers a →
    each_once (front ++ (option ∷ back)) (options_of words) ≡ true →
    each_once (front ++ with_some a option back) (options_of words) ≡ true
where_given option front back words None numbers form said once = not_given option front back words form said once
where_given option front back words (Some a) numbers form said once = once

-- where each option is one of the command's own and stands once, it is one whose value the command has
pub said_once : (command : Command) (name : Name) (words : List (List ℕ)) → CommandSaid command name words →
    each_once (own_options name) (options_of words) ≡ true → each_once (options_said command) (options_of words) ≡ true
said_once (Bake rows photo plate None) name words said once =
    where_given (codes "--rows") [] [] words rows (λ r. Some r.from ∷ Some r.count ∷ []) refl said.2 (rw said.0 at once)
said_once (Bake rows photo plate (Some p)) name words said once =
    where_given (codes "--rows") [] [] words rows (λ r. Some r.from ∷ Some r.count ∷ []) refl said.2 (rw said.0 at once)
said_once (Measure photo plate Table) name words said once =
    not_given (codes "--worst") [] [] words refl said.2.0
    (not_given (codes "--total") (codes "--worst" ∷ []) [] words refl said.2.1
    (not_given (codes "--csv") (codes "--worst" ∷ codes "--total" ∷ []) [] words refl said.2.2 (rw said.0 at once)))
said_once (Measure photo plate (Worst n)) name words said once =
    not_given (codes "--total") (codes "--worst" ∷ []) [] words refl said.2.1
    (not_given (codes "--csv") (codes "--worst" ∷ codes "--total" ∷ []) [] words refl said.2.2 (rw said.0 at once))
said_once (Measure photo plate (Both n)) name words said once = elim said.2 [ ]
said_once (Measure photo plate Total) name words said once =
    not_given (codes "--worst") [] (codes "--total" ∷ []) words refl said.2.0
    (not_given (codes "--csv") (codes "--worst" ∷ codes "--total" ∷ []) [] words refl said.2.2 (rw said.0 at once))
said_once (Measure photo plate Csv) name words said once =
    not_given (codes "--worst") [] (codes "--csv" ∷ []) words refl said.2.0
    (not_given (codes "--total") (codes "--worst" ∷ []) (codes "--csv" ∷ []) words refl said.2.1 (rw said.0 at once))
said_once (Read plate None block) name words said once =
    not_given (codes "--width") [] (with_some block (codes "--block") []) words refl said.2
    (where_given (codes "--block") (codes "--width" ∷ []) [] words block (λ n. Some n ∷ []) refl said.3 (rw said.0 at once))
said_once (Read plate (Some w) block) name words said once =
    where_given (codes "--block") (codes "--width" ∷ []) [] words block (λ n. Some n ∷ []) refl said.3 (rw said.0 at once)
said_once (Show plate size out) name words said once = rw said.0 at once
said_once (Map photo plate out SquareRoot white) name words said once =
    not_given (codes "--linear") [] (with_some white (codes "--white") []) words refl said.2
    (where_given (codes "--white") (codes "--linear" ∷ []) [] words white (λ n. Some n ∷ []) refl said.3 (rw said.0 at once))
said_once (Map photo plate out Linear white) name words said once =
    where_given (codes "--white") (codes "--linear" ∷ []) [] words white (λ n. Some n ∷ []) refl said.3 (rw said.0 at once)
said_once (Help None) name words said once = rw said.0 at once
said_once (Help (Some asked)) name words said once = rw said.0 at once
said_once Version name words said once = elim said [ ]
