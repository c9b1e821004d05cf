-- An image and a book in the relation find the same points with the same texts.
-- Assumes nothing.
use mathlib.Core.Path.{◌≡◌, refl, ap, ◌∙◌}
use mathlib.Core.Bool.{Bool, cond, ◌&&◌}
use mathlib.Core.Option.{none, some}
use Rattle.spec_file.specs.Bytes.{Bytes}
use Rattle.spec_file.specs.Image.{Layout}
use Rattle.spec_file.specs.Search.{search, is_met}
use Rattle.spec_file.specs.Questions.{name_allowed}
use Rattle.spec_file.specs.Calls.{Answer, lookup}
use Rattle.spec_book.specs.Book.{Book}
use Rattle.spec_book.specs.Demand.{file_text, book_text, text_of}
use Rattle.law_file.proofs.Tests.{by_bool}
use Rattle.law_agreement.proofs.Reflect.{Reflected}
use Rattle.law_agreement.proofs.Simple.{lookup-is, found-met, found_none, by-met}

pub points-agree : (img : Bytes) (b : Book) → Reflected img b → (name : Bytes) → file_text img name ≡ book_text b name
unfolding file_text book_text text_of is_met
points-agree img b (g, r) name =
    let found : Layout → Bool = λ (l : Layout). name_allowed l.K name && is_met (search l img name) in
    ap (λ (l : Layout). cond (found l) (some (lookup img name).answer.text) none) r.file.layout
    ∙ by_bool (name_allowed g.K name)
    (λ a. by-met g img b r name
    (λ i m.
    rw (a, m, found-met g img b r name a i m)
    (ap some (ap (λ (x : Answer). x.text) (lookup-is g img b r name a i m))))
    (λ h. rw (a, h, found_none g img b r name a h) refl))
    (λ h. rw (h, r.others name h) refl)
