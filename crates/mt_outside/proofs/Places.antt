-- Lemmas on the files of a store in memory, by the place of a name.
use Rattle.std.proofs.Common.{◌≡◌, ℕ, List, [], ◌∷◌, ◌++◌, get_or, set, map, Option, Some, None, sym, ap, ◌∙◌, subst, arith, string_bytes}
use Rattle.std.specs.List.{position_from}
use Rattle.std.proofs.Math.Path.{fun_ext}
use Rattle.std.proofs.Math.Seq.{map-set_same}
use Rattle.mt_outside.specs.Files.{file_of, changed, replaced}
use Rattle.mt_outside.specs.Shelf.{is_named, shown}
use Rattle.mt_outside.specs.declared.shelf.File.{File}
use Rattle.mt_outside.proofs.Shelves.{First, found_from, found_file, found_changed, no_file, added_file}

-- the place that is found is that of the first file of the name
pub placed : (files : List File) (name : List ℕ) (at : ℕ) → Some at ≡ position_from (is_named name) 0 files → First (is_named name) files at
placed files name at found =
    let f = found_from (is_named name) files 0 at (sym found) in
    subst (First (is_named name) files) (let e : f.0 ≡ at = omega (arith, f.1) in e) f.2

-- the bytes of the file that is found
pub bytes_at : (files : List File) (name : List ℕ) (at : ℕ) (file : File) → Some at ≡ position_from (is_named name) 0 files → file ≡ get_or files at file → Some file.bytes.items ≡ file_of (map shown files) name
bytes_at files name at file found is =
    ap (λ f. Some f.bytes.items) is ∙ sym (found_file shown name files at file (placed files name at found))

-- where no place is found there is no file
pub nothing_at : (files : List File) (name : List ℕ) → None ≡ position_from (is_named name) 0 files → None ≡ file_of (map shown files) name
nothing_at files name none = sym (no_file shown name files 0 (sym none))

-- the file that is found is changed
pub changed_at : (g : Option (List ℕ) → Option (List ℕ)) (files : List File) (name : List ℕ) (at : ℕ) (file new : File) → Some at ≡ position_from (is_named name) 0 files → file ≡ get_or files at file
    → string_bytes new.name ≡ string_bytes file.name → Some new.bytes.items ≡ g (Some file.bytes.items) → file_of (map shown (set files at new)) ≡ changed g name (file_of (map shown files))
changed_at g files name at file new found is titled made =
    fun_ext (found_changed shown name g new files at file (placed files name at found)
    (titled ∙ ap (λ f. string_bytes f.name) is) (made ∙ ap (λ f. g (Some f.bytes.items)) is))

-- a file that is put back with the same bytes changes nothing
pub same_at : (files : List File) (at : ℕ) (file new : File) → file ≡ get_or files at file → string_bytes new.name ≡ string_bytes file.name → new.bytes.items ≡ file.bytes.items → map shown (set files at new) ≡ map shown files
same_at files at file new is titled same = map-set_same shown files at new file (let e : shown new ≡ shown file = cc in e ∙ ap shown is)

-- a file that isn't there is put behind the others
pub added_behind : (files : List File) (name : List ℕ) (new : File) → None ≡ position_from (is_named name) 0 files → string_bytes new.name ≡ name → file_of (map shown (files ++ new ∷ [])) ≡ replaced name new.bytes.items (file_of (map shown files))
added_behind files name new none titled = fun_ext (added_file shown name new files titled (no_file shown name files 0 (sym none)))
