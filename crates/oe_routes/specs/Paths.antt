-- The parameters of a path: its second and its fourth segment. Nothing is decoded.
use Rattle.std.specs.Prelude.{ℕ, List}
use Rattle.std.specs.List.{before_first}
use Rattle.oe_pages.specs.Pages.{is_slash, path_behind}

-- what stands before the first slash
abbrev pub segment : List ℕ → List ℕ
segment path = before_first is_slash path

-- the id, and the name of an asset
abbrev pub id_in : List ℕ → List ℕ
id_in path = segment (path_behind (path_behind path))

abbrev pub name_in : List ℕ → List ℕ
name_in path = segment (path_behind (path_behind (path_behind (path_behind path))))
