-- Lines worked by hand.
use Rattle.std.specs.Prelude.{◌≡◌, true, false, [], ◌∷◌, None, Some, codes}
use Rattle.arguments.specs.Line.{names_of, options_of, each_once, numbers_at}

-- the names, the options and the numbers of lines
pub record Worked : Type 0 where
  -- two names
  pub names : names_of (codes "a" ∷ codes "b" ∷ []) ≡ codes "a" ∷ codes "b" ∷ []
  -- each option with as many numbers as it has, and then a name
  pub rows : names_of (codes "--rows" ∷ codes "4" ∷ codes "2" ∷ codes "a" ∷ []) ≡ codes "a" ∷ []
  pub worst : names_of (codes "--worst" ∷ codes "5" ∷ codes "a" ∷ []) ≡ codes "a" ∷ []
  pub total : names_of (codes "--total" ∷ codes "a" ∷ []) ≡ codes "a" ∷ []
  pub csv : names_of (codes "--csv" ∷ codes "a" ∷ []) ≡ codes "a" ∷ []
  pub width : names_of (codes "--width" ∷ codes "66" ∷ codes "a" ∷ []) ≡ codes "a" ∷ []
  pub block : names_of (codes "--block" ∷ codes "0" ∷ codes "a" ∷ []) ≡ codes "a" ∷ []
  pub linear : names_of (codes "--linear" ∷ codes "a" ∷ []) ≡ codes "a" ∷ []
  pub white : names_of (codes "--white" ∷ codes "9" ∷ codes "a" ∷ []) ≡ codes "a" ∷ []
  -- an option between two names
  pub between : names_of (codes "a" ∷ codes "--worst" ∷ codes "5" ∷ codes "b" ∷ []) ≡ codes "a" ∷ codes "b" ∷ []
  -- a name with one dash in front
  pub dash : names_of (codes "-a" ∷ []) ≡ codes "-a" ∷ []
  -- the options of a line: neither their numbers nor names
  pub options : options_of (codes "a" ∷ codes "--worst" ∷ codes "--csv" ∷ codes "--total" ∷ codes "-b" ∷ [])
      ≡ codes "--worst" ∷ codes "--total" ∷ []
  -- two options, each once, in another order
  pub own : each_once (codes "--width" ∷ codes "--block" ∷ []) (codes "--block" ∷ codes "--width" ∷ []) ≡ true
  -- an option that stands twice
  pub twice : each_once (codes "--width" ∷ codes "--block" ∷ []) (codes "--block" ∷ codes "--width" ∷ codes "--block" ∷ []) ≡ false
  -- an option that is none of the list
  pub foreign : each_once (codes "--worst" ∷ codes "--total" ∷ codes "--csv" ∷ []) (codes "--total" ∷ codes "--rows" ∷ []) ≡ false
  -- an option where there is to be none
  pub none : each_once [] (codes "--total" ∷ []) ≡ false
  -- the numbers of an option behind a name and another option
  pub said : numbers_at (codes "--rows") (codes "a" ∷ codes "--csv" ∷ codes "--rows" ∷ codes "4" ∷ codes "2" ∷ codes "b" ∷ [])
      ≡ Some (Some 4 ∷ Some 2 ∷ [])
  -- no numbers of an option that has none
  pub stands : numbers_at (codes "--csv") (codes "a" ∷ codes "--csv" ∷ codes "4" ∷ []) ≡ Some []
  -- nothing of an option that does not stand there
  pub missing : numbers_at (codes "--white") (codes "a" ∷ codes "--csv" ∷ codes "4" ∷ []) ≡ None
