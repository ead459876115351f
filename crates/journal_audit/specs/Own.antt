-- Rows of users' pages that are those of a memory object.
use Rattle.std.specs.Prelude.{◌-◌, Bool, ◌==◌, ◌&&◌, nat_le, nat_lt}
use Rattle.iofd_words.specs.Pages.{page_of}
use Rattle.iofd_words.specs.declared.rows.MemoryObject.{MemoryObject}
use Rattle.iofd_words.specs.declared.rows.UserPage.{UserPage}

-- the row is of one of its user's pages from its first one on
abbrev pub is_row_of : MemoryObject → UserPage → Bool
is_row_of m row =
    row.user.0 == m.user.0 && nat_le (page_of m.va) row.page && nat_lt (row.page - page_of m.va) m.count
